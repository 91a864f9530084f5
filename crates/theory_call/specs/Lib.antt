-- The call as a definition; what its yes or no, its moves and the tree that it writes are about; the nesting of a written tree;
-- what patience and buffers can't change of an answer; the itinerary of a yes; its list of moves on closures; and the starred
-- examples. Assumes nothing:
-- these are definitions.
pub mod Call
pub mod Nesting
pub mod Standing
pub mod Itinerary
pub mod Steadfast
pub mod ClosureCall
pub mod Examples
