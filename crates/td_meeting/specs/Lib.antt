-- The definitions of the crate.
pub mod Reading
pub mod Writing
pub mod Steps
pub mod Meetings
pub mod Laws
pub mod ForProofs
