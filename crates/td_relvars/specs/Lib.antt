-- The definitions of the crate.
pub mod Changed
pub mod Keys
pub mod Parts
pub mod Evaluated
pub mod Ways
pub mod Laws
pub mod ForProofs
