-- What the contracts of `program_replies` cite: the reply to the words of an input. Assumes nothing: these are definitions.
pub mod Reply
