pub mod Lending
pub mod Owned
