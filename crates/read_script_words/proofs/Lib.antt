-- The laws of `read_script_words` that its own proofs and the crates above cite.
pub mod Words
