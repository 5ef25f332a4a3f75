mod Examples
pub mod Joins
pub mod Loops
pub mod MessageSpellings
pub mod KindSpellings
pub mod FrameSpellings
pub mod StreamSpellings
