-- The definitions of the crate.
pub mod Bases
pub mod ForProofs
pub mod Ways
