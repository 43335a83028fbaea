pub mod Positions
pub mod Storing
pub mod Texts
