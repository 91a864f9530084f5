-- `read_script_words::greatest_name` meets its contract. Assumes nothing.
use Rattle.std.proofs.Common.{rules, ◌∙◌}
use Rattle.read_script_words.specs.ScriptWords.{script_name}
use Rattle.read_script_words.proofs.Words.{names-greatest}
use Rattle.read_script_words.proofs.greatest_name.Goals as goal

pub returns : goal.returns
returns c = c.greatest.ensures script_name (λ w r e. search rules) ∙ names-greatest c.args.s.now
