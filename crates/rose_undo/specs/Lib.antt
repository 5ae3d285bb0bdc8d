pub mod Edits
pub mod Modified
pub mod Roses
pub mod Versions
