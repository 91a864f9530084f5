-- The laws of the whole walk. Assumes nothing.
mod Programs
pub mod Begun
