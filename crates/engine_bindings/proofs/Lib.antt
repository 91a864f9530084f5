-- The laws of `engine_bindings` that its own proofs and the crates above cite.
pub mod Bindings
pub mod Passing
pub mod Counting
