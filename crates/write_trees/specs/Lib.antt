-- What the contracts of `write_trees` cite. Assumes nothing: these are definitions.
pub mod Room
pub mod Bodies
pub mod Asked
