-- What the counters of heads, parts and bodies ask of what they are lent. Assumes nothing: these are definitions.
use Rattle.std.specs.Prelude.{ℕ, ◌<◌, List}
use Rattle.engine_message_words.specs.declared.Binding.{Binding}
use Rattle.engine_held_bindings.specs.Sizes.{Cached}
use Rattle.write_heads.specs.Heads.{Scripted}
use Rattle.write_counts.specs.declared.Standing.{Standing}

-- where the words in front of a part's body are to be counted
pub record HeadCountAsked (script : List ℕ) (start offset : ℕ) (bindings : List Binding) : Type 0 where
  -- what is kept with the bindings is right
  pub cached : Cached script bindings
  -- the part is none that PLACED made
  pub placed : start < 65536
  -- the offset is no count that stopped
  pub below : offset < 4294967295

-- where the words of the tree or of a body of it are to be counted, and where the tree is to be written that is counted first
pub record TreeAsked (tree : Standing) : Type 0 where
  -- what is kept with the bindings is right
  pub cached : Cached tree.script.now tree.bindings.now
  -- the parts' messages stand in the script
  pub scripted : Scripted tree.starts.now tree.offsets.now

-- where the words of the part i are to be counted
pub record PartCountAsked (tree : Standing) (i : ℕ) : Type 0 where
  -- what is asked where the words of any body are to be counted
  pub asked : TreeAsked tree
  -- it is a part
  pub part : i < 64
