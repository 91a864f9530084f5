-- What the contracts of `write_messages` cite. Assumes nothing: these are definitions.
pub mod Buffer
pub mod Indices
pub mod Passes
pub mod Asked
