-- What the contracts of `base_slices` and of the readers cite. Assumes nothing: these are definitions.
pub mod Sums
pub mod Fronts
