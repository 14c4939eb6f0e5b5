-- The proofs of the crate.
pub mod Beside
pub mod Depending
pub mod Exchanging
pub mod Growing
pub mod Inserting
pub mod Parting
