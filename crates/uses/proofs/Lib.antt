pub mod InOrder
pub mod JsonSeen
pub mod SameNode
pub mod TwoPasses
