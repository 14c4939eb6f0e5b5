-- The definitions of the crate.
pub mod Trees
pub mod Types
pub mod ForProofs
pub mod Laws
