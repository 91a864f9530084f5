-- The laws of `read_rule_words` that its own proofs and the crates above cite.
pub mod Words
pub mod Cases
pub mod Order
