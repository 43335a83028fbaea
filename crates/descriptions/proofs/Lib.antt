pub mod Judging
pub mod WholeLine
