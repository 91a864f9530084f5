-- Laws of the two arrays that hold a state. Assumes nothing.
pub mod Rows
pub mod Standing
