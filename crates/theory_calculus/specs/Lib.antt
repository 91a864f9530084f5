-- Satisfaction on trees, the paper's calculus and logic, the process that a tree represents and the one that a script says as
-- written, and trees that differ in order only. Assumes nothing: these are definitions.
pub mod Satisfaction
pub mod Calculus
pub mod TreeProcess
pub mod Written
pub mod Order
