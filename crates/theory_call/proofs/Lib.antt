-- The theorems about the call as a definition: demand 2, the moves as reductions, the weight, the bound, how small an answer
-- is, that its trees rise, what patience and buffers can't change, the written tree read again, the itinerary of a yes, and the same told
-- by closures.
-- Assumes nothing.
pub mod Runs
pub mod Door
pub mod Begun
pub mod Asking
pub mod Entering
pub mod Answers
pub mod Verdicts
pub mod ClosureRuns
pub mod Called
pub mod Itineraries
pub mod Small
pub mod Reducing
pub mod Risen
pub mod Parts
pub mod Rereading
pub mod Returning
pub mod Readmitting
pub mod Leaving
pub mod Steadfast
