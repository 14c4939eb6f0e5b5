-- The definitions of the crate.
pub mod Sites
pub mod Faults
pub mod Linked
pub mod Asking
pub mod Answers
pub mod Replies
pub mod ForProofs
