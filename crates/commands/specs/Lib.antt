pub mod Runs
pub mod TableLaws
pub mod TableModel
