-- What the contracts of `read_script_words` cite. Assumes nothing: these are definitions.
pub mod ScriptWords
