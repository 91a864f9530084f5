-- The laws of answers that the call cites. Assumes nothing.
mod Names
pub mod Terms
pub mod Refusals
