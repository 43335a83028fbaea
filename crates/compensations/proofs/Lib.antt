pub mod Appending
pub mod FillingIn
