pub mod Configuration
pub mod Telling
