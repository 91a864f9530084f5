-- The laws of the words that bytes spell.
pub mod Reading
