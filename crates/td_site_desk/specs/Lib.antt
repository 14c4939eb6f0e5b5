-- The definitions of the crate.
pub mod ForProofs
pub mod Laws
pub mod Meetings
pub mod Runs
pub mod Sites
