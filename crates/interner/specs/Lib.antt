pub mod InternMaps
pub mod Made
pub mod Parts
pub mod Queries
pub mod Symbols
