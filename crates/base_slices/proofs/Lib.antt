-- The laws of `base_slices` that its own proofs and the crates above cite.
pub mod Tests
pub mod Tails
pub mod Capping
