-- That satisfaction as the checker reads it is the paper's, and the laws that lead there; that order, numbers and variables do
-- not matter to it; and that a script's first tree represents what is written. Assumes nothing.
pub mod Variables
pub mod Shapes
pub mod Congruences
pub mod Substitutions
pub mod Divisions
pub mod Picks
pub mod Processes
pub mod Reductions
pub mod Steps
pub mod Runs
pub mod Kept
pub mod Agreement
pub mod Orders
pub mod Writings
