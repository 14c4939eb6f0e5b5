-- The definitions of the crate.
pub mod Mentions
pub mod ForProofs
