-- The definitions of the crate.
pub mod Extents
pub mod Laws
