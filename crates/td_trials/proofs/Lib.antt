-- The proofs of the crate.
pub mod Trying
