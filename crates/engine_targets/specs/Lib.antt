-- What the contracts of `engine_targets`, and of the crates that make the moves, cite. Assumes nothing: these are definitions.
pub mod Targets
pub mod Makes
