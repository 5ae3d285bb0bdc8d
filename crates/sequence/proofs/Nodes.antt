-- The items under the children of a node, how many there are, and a node after a change under one of them.
pub mod Children
pub mod Wide
pub mod Copied
pub mod Labelled
pub mod Placed
pub mod Changed
pub mod Ended
