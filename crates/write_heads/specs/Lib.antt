-- What the contracts of `write_heads` cite. Assumes nothing: these are definitions.
pub mod Around
pub mod Heads
pub mod Asked
