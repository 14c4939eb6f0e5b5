-- The proofs of the crate.
pub mod Forms
pub mod Operators
pub mod Ties
