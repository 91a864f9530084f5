-- Laws of a state that is settled, of the first state and of PLACED. Assumes nothing.
pub mod Settling
pub mod Settled
pub mod Placing
