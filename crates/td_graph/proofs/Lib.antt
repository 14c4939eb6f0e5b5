-- The proofs of the crate.
pub mod Walks
