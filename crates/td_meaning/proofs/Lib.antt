-- The proofs of the crate.
pub mod Depths
pub mod Falls
pub mod Forms
pub mod Walks
pub mod Selecting
pub mod Scopes
pub mod Fewer
pub mod Rightness
pub mod Deepest
pub mod Checks
pub mod Pinning
pub mod Behind
pub mod ReadyTerms
