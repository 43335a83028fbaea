pub mod Places
mod Marking
