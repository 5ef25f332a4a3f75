pub mod Serving
pub mod Course
