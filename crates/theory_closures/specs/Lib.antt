-- The closure machine as definitions. Assumes nothing.
pub mod Resolve
pub mod Closure
