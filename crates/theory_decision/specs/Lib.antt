-- The walk as a definition: over any space, over plain trees and over closures; trees whose bodies rise, and rules whose
-- variables are chosen. Assumes nothing: these are definitions.
pub mod Walk
pub mod Divisions
pub mod PlainWalk
pub mod ClosureWalk
pub mod Rising
pub mod Closed
