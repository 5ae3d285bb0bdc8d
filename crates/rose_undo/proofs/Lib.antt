pub mod Branches
pub mod Forgotten
pub mod Modified
pub mod Paths
pub mod Preorder
pub mod Roses
