-- The laws of numbers and words as text: pieces, numbers.
pub mod Putting
pub mod Numbers
