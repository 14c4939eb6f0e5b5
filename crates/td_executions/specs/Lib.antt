-- The definitions of the crate.
pub mod GlobalStates
pub mod Calls
pub mod Laws
