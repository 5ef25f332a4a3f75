pub mod Showing
pub mod Beside
pub mod Lines
pub mod Schedules
pub mod Whole
pub mod ReadFit
pub mod Chosen
