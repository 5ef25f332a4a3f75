pub mod Scanning
pub mod Keeping
pub mod Replacing
pub mod Reporting
