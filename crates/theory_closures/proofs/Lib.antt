-- Laws of the closure machine: it moves as the plain machine does, and each move takes one from a budget. Assumes nothing.
pub mod Resolving
pub mod Substitution
pub mod Tallies
pub mod Invariant
pub mod Simulation
pub mod Started
pub mod Bound
