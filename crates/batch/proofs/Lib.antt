pub mod Noting
pub mod Answered
pub mod Delivering
