pub mod Acting
pub mod Arming
pub mod Keeping
pub mod Following
pub mod Coming
pub mod Laws
