-- The definitions of the crate.
pub mod Digests
pub mod Messages
pub mod Extents
pub mod Hashed
pub mod ForProofs
