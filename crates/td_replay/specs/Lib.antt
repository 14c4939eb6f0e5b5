-- The definitions of the crate.
pub mod Noted
pub mod Counted
pub mod ForProofs
