-- The proofs of the crate.
pub mod Agreeing
pub mod Places
