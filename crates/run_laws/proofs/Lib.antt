pub mod Running
pub mod Generated
pub mod Nexts
pub mod Drawing
pub mod Whole
