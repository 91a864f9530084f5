-- The laws of `engine_first_items`. Assumes nothing.
mod Searching
