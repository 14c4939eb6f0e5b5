-- The definitions of the crate.
pub mod Touched
pub mod Counts
pub mod Going
pub mod Replays
pub mod Turns
pub mod Commuting
pub mod Parts
pub mod Laws
pub mod ForProofs
