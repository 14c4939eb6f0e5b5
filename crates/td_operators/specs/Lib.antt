-- The definitions of the crate.
pub mod Values
pub mod Operators
pub mod ForProofs
