pub mod Kinds
pub mod Views
pub mod Settled
pub mod Learned
pub mod Installed
pub mod Sent
pub mod Kept
pub mod Laws
