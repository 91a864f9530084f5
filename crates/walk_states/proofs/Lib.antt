-- What the walk's small functions answer. Assumes nothing.
pub mod Lendings
