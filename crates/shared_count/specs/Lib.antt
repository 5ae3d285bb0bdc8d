pub mod Extends
pub mod History
pub mod HistoryLaws
pub mod Inside
pub mod Passes
