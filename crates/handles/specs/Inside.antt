-- Definitions that only contracts inside the crate cite.
pub mod Rows
pub mod BlockWriteBack
pub mod Blocks
pub mod ItemsLending
pub mod Marked
pub mod PlacesLending
pub mod PlacesOwnership
