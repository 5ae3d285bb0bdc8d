pub mod UnionHandles
pub mod UnionLaws
pub mod UnionTableModel
pub mod Unions
pub mod formers
