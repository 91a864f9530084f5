-- What the contracts of the program cite: its input, its reply, and when this is right. Assumes nothing: these are definitions.
pub mod Input
pub mod Right
