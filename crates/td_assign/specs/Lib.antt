-- The definitions of the crate.
pub mod Redoing
pub mod Laws
pub mod ForProofs
pub mod Readings
pub mod Inserting
pub mod Trying
