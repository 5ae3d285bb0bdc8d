pub mod Filled
pub mod Lent
pub mod Paged
pub mod Places
