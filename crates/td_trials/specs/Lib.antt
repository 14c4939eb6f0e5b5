-- The definitions of the crate.
pub mod Trials
pub mod Laws
