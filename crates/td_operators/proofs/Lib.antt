-- The proofs of the crate.
pub mod KindLemmas
pub mod Decided
pub mod Unmatched
pub mod WithinParts
pub mod Dee
pub mod Turns
