pub mod SlotLemmas
pub mod CallLemmas
pub mod SlotSetLemmas
