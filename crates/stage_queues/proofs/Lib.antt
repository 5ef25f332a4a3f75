pub mod Agreement
pub mod Elements
pub mod Ends
pub mod Inlets
pub mod Running
pub mod Steps
