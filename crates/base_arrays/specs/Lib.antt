-- What the contracts of `base_arrays` cite. Assumes nothing: these are definitions.
pub mod Stretches
