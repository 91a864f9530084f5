-- The laws of `write_messages` that its own proofs and the crates above cite.
pub mod Lending
pub mod Receipts
pub mod Words
pub mod Items
