pub mod LentTail
pub mod Delivery
pub mod Inputs
pub mod Outgoing
pub mod TwoPasses
