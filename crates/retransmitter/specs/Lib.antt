pub mod Armed
pub mod Slots
pub mod SlotSets
pub mod Lending
pub mod Calls
