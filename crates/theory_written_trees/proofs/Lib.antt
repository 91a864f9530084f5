-- Laws of the written form that belong to no one function. Assumes nothing.
pub mod Trees
