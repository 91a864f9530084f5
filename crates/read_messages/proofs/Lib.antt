-- The laws of `read_messages` that its own proofs and the crates above cite.
pub mod Readings
pub mod Laws
pub mod Cases
pub mod Spells
pub mod Places
pub mod Mentioning
pub mod Folds
