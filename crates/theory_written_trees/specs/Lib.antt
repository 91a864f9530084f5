-- The tree written in the script's form. Assumes nothing: these are definitions.
pub mod Write
