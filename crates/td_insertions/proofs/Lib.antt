-- The proofs of the crate.
pub mod Readings
pub mod Counting
pub mod Unions
pub mod Writing
pub mod Meaning
pub mod Putting
