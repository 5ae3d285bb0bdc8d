pub mod Edits
pub mod ByTheWord
pub mod HandleSteps
pub mod Continues
pub mod Acting
pub mod Running
