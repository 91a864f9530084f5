-- The laws of `engine_held_bindings` that its own proofs cite.
pub mod Sizing
