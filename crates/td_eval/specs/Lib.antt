-- The definitions of the crate.
pub mod Added
pub mod Changed
pub mod Keyed
pub mod Laws
pub mod ForProofs
