-- Nodes that become two or one, and what is hung beside them.
pub mod Halves
pub mod Joined
pub mod Beside
pub mod Appended
pub mod Built
pub mod Parted
pub mod Edges
