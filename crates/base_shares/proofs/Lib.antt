-- Laws of shares that the crates above cite.
pub mod Shares
pub mod Divisions
