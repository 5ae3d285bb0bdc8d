pub mod Lending
pub mod Pages
pub mod formers
