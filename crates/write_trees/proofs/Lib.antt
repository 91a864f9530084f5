-- The laws of `write_trees` that its own proofs cite.
pub mod Writing
pub mod Answers
