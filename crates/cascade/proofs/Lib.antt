pub mod Equal
pub mod RuleTree
