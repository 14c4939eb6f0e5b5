-- The definitions of the crate.
pub mod Authors
pub mod Keys
pub mod Laws
