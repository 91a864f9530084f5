-- What the contracts of `read_scripts` cite, and examples of it. Assumes nothing: these are definitions.
pub mod Tree
pub mod Script
pub mod Table
pub mod Represents
pub mod Measures
pub mod Examples
