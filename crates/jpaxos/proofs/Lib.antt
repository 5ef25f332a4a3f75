pub mod Answering
pub mod Takings
