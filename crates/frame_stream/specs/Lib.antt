pub mod Frames
pub mod Following
pub mod Laws
