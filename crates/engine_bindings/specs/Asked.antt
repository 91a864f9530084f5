-- What the passes over words ask of what they are lent. Assumes nothing: these are definitions.
use Rattle.std.specs.Prelude.{ℕ, ◌+◌, ◌^◌, ◌<◌, List, length}

-- where a pass over the items of the first `pending` messages of the words is to step behind the first word's own items
pub record AfterOwnAsked (words : List ℕ) (pending : ℕ) : Type 0 where
  -- a message is pending
  pub some : 0 < pending
  -- the messages and the words can be counted together
  pub room : pending + length words < 2 ^ 64
