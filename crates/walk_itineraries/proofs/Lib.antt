-- The laws of a visit at SOMETIME that keeps its moves. Assumes nothing.
pub mod Moving
pub mod Guiding
