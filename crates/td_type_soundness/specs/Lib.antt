-- The definitions of the crate.
pub mod Values
pub mod Meanings
pub mod Laws
