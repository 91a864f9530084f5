-- The process that a tree of the plain machine represents: the composition of its parts, in their order and without their
-- numbers; an action is the chain of its items. This alone joins the tree of parts and the calculus. Assumes nothing: these are
-- definitions.
use Rattle.std.specs.Prelude.{List, [], ◌∷◌}
use Rattle.read_messages.specs.Message.{Message}
use Rattle.read_scripts.specs.Tree.{Head, close, part, PlainHead, Plain}
use Rattle.theory_calculus.specs.Calculus.{Process, 𝟎, ◌‖◌, ambient, action, input, output}

-- the process that the items guard, one after another
unfoldable pub prefix : List Message → Process → Process
prefix [] p = p
prefix (i ∷ is) p = action i (prefix is p)

-- a part by its head, p being the process of the body inside it
unfoldable pub piece : PlainHead → Process → Process
piece (Head.ambient m) p = ambient m p
piece (Head.action is) p = prefix is p
piece (Head.receipt v) p = input v p
piece (Head.output m) p = output m

-- the parts of a body beside one another, and behind them nothing
unfoldable pub process : Plain → Process
process close = 𝟎
process (part k h b r) = piece h (process b) ‖ process r
