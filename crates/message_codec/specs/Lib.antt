pub mod Messages
pub mod Frames
pub mod Spelling
pub mod Limits
pub mod Laws
