pub mod Terminals
pub mod ReadFields
pub mod WrittenStrings
