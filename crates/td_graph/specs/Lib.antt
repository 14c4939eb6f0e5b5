-- The definitions of the crate.
pub mod Links
pub mod ForProofs
