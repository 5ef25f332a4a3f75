pub mod Turns
pub mod Sending
pub mod Receiving
