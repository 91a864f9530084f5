-- What the contracts of `walk_rule_answers`, `walk_states`, `walk_visits` and `checker` cite of the walk. Assumes nothing: these are definitions.
pub mod Order
pub mod Visits
pub mod Pieces
