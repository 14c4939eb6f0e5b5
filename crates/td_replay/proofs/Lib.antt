-- The proofs of the crate.
pub mod Telling
pub mod Making
pub mod Issuing
pub mod Taking
pub mod Asking
pub mod Counting
pub mod Recorded
pub mod Anew
pub mod Copies
pub mod Earlier
pub mod Changing
pub mod Depending
