pub mod CountingWord
pub mod Plans
pub mod Rights
pub mod WordSteps
pub mod Logs
pub mod Codes
pub mod Tallies
