-- Laws of the moves that belong to no one function. Assumes nothing.
pub mod Options
pub mod Inversion
pub mod Sums
pub mod Everywhere
pub mod Naturality
