-- The laws of the list of moves. Assumes nothing.
pub mod Listed
