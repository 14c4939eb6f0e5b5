-- The definitions of the crate.
pub mod Scopes
pub mod Comparing
pub mod Steps
pub mod Laws
pub mod ForProofs
