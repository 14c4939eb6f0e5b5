-- The proofs of the crate.
pub mod Stores
pub mod Inits
pub mod Asked
pub mod Told
pub mod Places
pub mod Returning
pub mod Kept
pub mod Copies
pub mod PartLemmas
pub mod Bases
