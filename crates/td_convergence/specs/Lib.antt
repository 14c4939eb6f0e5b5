-- The definitions of the crate.
pub mod Trees
pub mod Laws
