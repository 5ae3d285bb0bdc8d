pub mod Lines
pub mod Numerals
pub mod Runs
pub mod ScriptLines
pub mod Showing
pub mod Statuses
