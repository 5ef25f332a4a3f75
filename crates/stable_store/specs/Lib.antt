pub mod Disks
pub mod Slots
pub mod Failing
pub mod Files
