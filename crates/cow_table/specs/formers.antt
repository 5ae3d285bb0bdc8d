pub mod table
