pub mod Cuts
pub mod Differences
pub mod Differing
pub mod Held
pub mod Refusing
pub mod Taking
pub mod Whole
