-- What the contracts of `engine_states` cite. Assumes nothing: these are definitions.
pub mod Represents
pub mod Searches
pub mod Seen
