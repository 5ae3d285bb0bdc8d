pub mod Names
pub mod WorkedTraces
pub mod Traces
pub mod Steps
