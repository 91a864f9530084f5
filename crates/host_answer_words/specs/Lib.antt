-- What the contracts of `host_answer_words` and of the call for C and Rust cite. Assumes nothing: these are definitions.
pub mod Told
pub mod Buffers
