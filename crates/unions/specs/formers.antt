pub mod arc_union
