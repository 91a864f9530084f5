-- What a word of AT or PLACED says. Assumes nothing.
pub mod Said
