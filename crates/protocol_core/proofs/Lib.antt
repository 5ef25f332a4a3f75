pub mod TurnedLemmas
pub mod SettlingLemmas
