pub mod Ascending
pub mod Counting
pub mod Proposing
pub mod Adoption
pub mod Window
