-- Laws of the homes of the parts, of the moves that a closure allows and of what they make of a state. Assumes nothing.
pub mod Locating
pub mod Opening
pub mod Entering
pub mod Leaving
pub mod Actors
pub mod Acting
pub mod Possible
pub mod Making
pub mod Aiming
