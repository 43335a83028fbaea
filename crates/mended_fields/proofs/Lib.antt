pub mod Reasons
pub mod Storing
pub mod WrittenPieces
