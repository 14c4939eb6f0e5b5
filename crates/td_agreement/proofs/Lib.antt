-- The proofs of the crate.
pub mod Fronts
pub mod Meanings
pub mod Agreeing
pub mod Interleaved
pub mod Progress
pub mod CutStreams
pub mod CutWriters
pub mod CutScopes
