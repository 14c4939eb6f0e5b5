-- The definitions of the crate.
pub mod Changes
pub mod Laws
pub mod ForProofs
