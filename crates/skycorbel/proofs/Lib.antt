-- The laws of the program's replies, that they are right, and that they fit.
pub mod Replies
pub mod Deciding
pub mod Bounds
