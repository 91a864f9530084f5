-- Laws of the moves as the engine makes them on lent arrays. Assumes nothing.
pub mod Finishing
pub mod Dispatch
pub mod LentMoves
pub mod Trying
