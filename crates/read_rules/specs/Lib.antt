-- What the contracts of `read_rules` cite, and examples of it. Assumes nothing: these are definitions.
pub mod RuleTable
pub mod Ruled
pub mod Examples
