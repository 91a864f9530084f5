-- What the contracts of `engine_held_bindings` cite. Assumes nothing: these are definitions.
pub mod Sizes
pub mod Held
