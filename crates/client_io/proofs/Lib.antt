pub mod Attempting
pub mod Queueing
pub mod Reading
pub mod Turning
pub mod Turns
