pub mod Cursor
pub mod Mending
pub mod Delivering
