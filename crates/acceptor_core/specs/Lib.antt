pub mod Learning
pub mod Promising
