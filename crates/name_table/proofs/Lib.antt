pub mod Laws
pub mod Inserting
