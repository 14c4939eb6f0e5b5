-- The definitions of the crate.
pub mod Laws
pub mod Interleaved
pub mod Progress
pub mod CutStreams
pub mod CutWriters
pub mod CutScopes
