-- The laws of `engine_message_words` that its own proofs and the crates above cite.
pub mod Variables
pub mod FirstWords
