-- What the contracts of `write_counts` cite. Assumes nothing: these are definitions.
pub mod Trees
pub mod Counts
pub mod Asked
