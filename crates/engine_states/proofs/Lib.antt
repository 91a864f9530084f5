-- Laws of the arrays that hold a closure, of what is kept of its parts, and of how a move changes them. Assumes nothing.
pub mod Heads
pub mod Holding
pub mod Focus
pub mod Filling
pub mod Deeds
pub mod Moving
pub mod Homes
pub mod Spending
pub mod Arrays
pub mod Weighing
