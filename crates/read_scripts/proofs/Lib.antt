-- The laws of `read_scripts` that its own proofs and the crates above cite.
pub mod Laws
pub mod Steps
pub mod Whole
pub mod Cases
pub mod Numbers
pub mod Scopes
pub mod Tabled
pub mod Places
