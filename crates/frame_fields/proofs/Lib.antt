pub mod Spellings
pub mod FieldSpellings
pub mod Framing
