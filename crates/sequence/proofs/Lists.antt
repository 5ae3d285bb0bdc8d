-- Items in place of others in a list, and the parts of a list.
pub mod Spliced
pub mod Kept
pub mod Parts
pub mod Ranges
pub mod Runs
pub mod Within
