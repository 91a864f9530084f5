-- What the contracts of `engine_message_words` cite. Assumes nothing: these are definitions.
pub mod Words
