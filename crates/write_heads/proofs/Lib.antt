-- What parts are written with, by their heads and bodies.
pub mod Heads
pub mod Parts
