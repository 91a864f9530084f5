-- What the contracts of `walk_rules` cite. Assumes nothing: these are definitions.
pub mod Walking
