-- The definitions of the crate.
pub mod Questions
pub mod Laws
