-- The proofs of the crate.
pub mod Giving
pub mod Replacing
pub mod Differing
pub mod Assigning
pub mod Preparing
pub mod Footprint
pub mod Listed
pub mod Remaking
pub mod Leading
pub mod Naming
pub mod Stepping
pub mod Turning
pub mod PartUndone
