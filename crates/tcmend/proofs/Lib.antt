pub mod Descriptions
pub mod Rooms
