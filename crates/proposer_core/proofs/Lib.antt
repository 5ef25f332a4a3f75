pub mod FirstReports
pub mod Launches
pub mod Searching
