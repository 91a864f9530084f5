-- What the contracts of `engine_first_items` cite. Assumes nothing: these are definitions.
pub mod Search
pub mod Asked
