-- The counts of visits before and after one more. Assumes nothing: these are definitions.
use Rattle.std.specs.Prelude.{ℕ, ◌+◌, ◌-◌, ◌≤◌, ◌<◌, max, ◌≡◌}
use Rattle.walk_stages.specs.declared.Counts.{Counts}

-- where one more visit is to be counted, with `left` depths left, its own among them
pub record VisitAsked (c : Counts) (left : ℕ) : Type 0 where
  -- it can be counted
  pub few : c.visits < 4294967295
  -- there are 256 depths
  pub shallow : left ≤ 256

-- r are the counts c after one more visit, with `left` depths left
pub record OneMoreVisit (c : Counts) (left : ℕ) (r : Counts) : Type 0 where
  -- there is one more
  pub visits : r.visits ≡ c.visits + 1
  -- the greatest depth is that of it or of one before
  pub deepest : r.deepest ≡ max (257 - left) c.deepest
