pub mod Plans
pub mod Words
pub mod Standings
pub mod WordLogs
pub mod MarkedBlocks
pub mod Kept
pub mod Tallies
mod WorkedLogs
