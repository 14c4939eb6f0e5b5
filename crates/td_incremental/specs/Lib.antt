-- The definitions of the crate.
pub mod Growth
pub mod Safety
pub mod References
pub mod Laws
pub mod ForProofs
