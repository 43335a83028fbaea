pub mod Entries
pub mod Marking
pub mod Answering
