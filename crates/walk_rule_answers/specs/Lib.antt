-- What the contracts of `walk_rule_answers` cite. Assumes nothing: these are definitions.
pub mod Visited
pub mod ChosenNames
