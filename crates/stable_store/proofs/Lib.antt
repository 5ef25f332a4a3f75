pub mod DiskLemmas
pub mod Moments
pub mod SlotLemmas
pub mod SaveLemmas
pub mod HeldLemmas
pub mod FailingLemmas
pub mod FillLemmas
