-- What the contracts of `engine_state_arrays` cite. Assumes nothing: these are definitions.
pub mod Lent
