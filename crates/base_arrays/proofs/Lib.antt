-- Laws of stretches and of what is put into one. Assumes nothing.
pub mod Copying
