-- The definitions of the crate.
pub mod Insertions
pub mod ForProofs
