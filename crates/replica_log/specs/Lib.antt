pub mod Log
pub mod Soundness
