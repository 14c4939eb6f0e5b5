-- The definitions of the crate.
pub mod Literals
pub mod Laws
