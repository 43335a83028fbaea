pub mod Effects
pub mod Readings
