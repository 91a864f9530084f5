-- What the contracts of `program_digits` cite: numbers and words as text. Assumes nothing: these are definitions.
pub mod Digits
