pub mod Passing
pub mod Feeding
pub mod OneReading
pub mod Spelt
