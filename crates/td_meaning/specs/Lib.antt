-- The definitions of the crate.
pub mod Mean
pub mod Selections
pub mod Seen
pub mod Parts
pub mod Laws
pub mod ForProofs
