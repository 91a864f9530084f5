-- What the contracts of `call_answers` and of the call cite of answers. Assumes nothing: these are definitions.
pub mod Answering
