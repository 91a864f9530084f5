-- What the contracts of `checker` cite. Assumes nothing: these are definitions.
pub mod Calling
