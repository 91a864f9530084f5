-- What the contracts of `engine_bindings` cite. Assumes nothing: these are definitions.
pub mod Bindings
pub mod Measures
pub mod Passes
pub mod Asked
