pub mod Numbers
pub mod Slices
pub mod Symbols
