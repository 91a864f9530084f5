-- What the call for C hands on, and that an answer's numbers fit words.
pub mod Kept
