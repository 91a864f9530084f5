-- Moves, over any way of holding actions, and the plain machine. Assumes nothing: these are definitions.
pub mod Bodies
pub mod Moves
pub mod PlainMachine
