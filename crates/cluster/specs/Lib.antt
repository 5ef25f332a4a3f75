pub mod Machine
pub mod Frames
pub mod Machines
pub mod Stepping
pub mod Runs
pub mod Drawing
pub mod Resembling
pub mod Standing
