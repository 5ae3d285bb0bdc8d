pub mod Cascade
pub mod Children
pub mod RuleTree
