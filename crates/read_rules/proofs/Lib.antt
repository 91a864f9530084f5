-- The laws of `read_rules` that its own proofs and the crates above cite.
pub mod Laws
pub mod Steps
pub mod Tabled
pub mod Whole
pub mod Inversion
pub mod Places
