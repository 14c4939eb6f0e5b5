-- The lemmas of the crate.
mod Comparisons
mod Joining
mod Kept
pub mod Prefixes
mod Sequences
mod Staying
mod Stepping
mod Told
