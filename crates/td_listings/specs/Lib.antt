-- The definitions of the crate.
pub mod Texts
pub mod Tables
pub mod Sites
pub mod Calls
pub mod Writings
pub mod Laws
pub mod ForProofs
