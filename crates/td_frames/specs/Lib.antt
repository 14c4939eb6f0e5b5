-- The definitions of the crate.
pub mod Spelling
pub mod Reading
pub mod Laws
pub mod ForProofs
