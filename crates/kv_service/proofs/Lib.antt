pub mod Aboves
pub mod Clients
pub mod Places
pub mod Puts
pub mod Requests
pub mod Searches
mod StateExamples
mod StoreExamples
pub mod ReadingLoops
pub mod StateBack
pub mod StateForth
