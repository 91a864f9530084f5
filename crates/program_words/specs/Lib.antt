-- What the contracts of `program_words` cite. Assumes nothing: these are definitions.
pub mod Words
