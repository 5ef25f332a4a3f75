pub mod Origin
pub mod Messages
pub mod Turning
pub mod Lanes
pub mod Asking
