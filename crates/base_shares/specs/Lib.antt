-- What the contract of `base_shares` cites. Assumes nothing.
pub mod Shares
