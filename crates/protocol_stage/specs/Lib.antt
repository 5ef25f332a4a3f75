pub mod Repeating
pub mod Performing
pub mod Running
pub mod Lending
pub mod Arming
pub mod Standing
pub mod Following
