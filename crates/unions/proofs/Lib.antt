pub mod UnionChanges
