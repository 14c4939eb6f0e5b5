-- The definitions of the crate.
pub mod Histories
pub mod Seen
pub mod Calls
pub mod Past
pub mod NewSites
pub mod Laws
