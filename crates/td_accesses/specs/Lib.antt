-- The definitions of the crate.
pub mod Commuting
pub mod Covering
pub mod Dependencies
pub mod ForProofs
pub mod Laws
