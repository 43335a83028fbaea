pub mod Counting
pub mod SearchAnswers
