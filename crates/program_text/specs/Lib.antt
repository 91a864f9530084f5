-- What the contracts of `program_text` cite: an answer as text. Assumes nothing: these are definitions.
pub mod Text
