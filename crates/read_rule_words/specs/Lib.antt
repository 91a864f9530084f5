-- What the contracts of `read_rule_words` cite. Assumes nothing: these are definitions.
pub mod Rule
pub mod ReadRule
pub mod RuleWords
