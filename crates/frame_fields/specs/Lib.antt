pub mod Faults
pub mod Reading
pub mod Telling
pub mod Spelling
pub mod Laws
