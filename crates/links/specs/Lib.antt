pub mod Receiving
pub mod Peers
pub mod Scripts
pub mod Adapters
