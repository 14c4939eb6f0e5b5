-- The definitions of the crate.
pub mod Streams
pub mod Runs
pub mod Scripts
pub mod Programs
pub mod Journals
pub mod Exits
pub mod ForProofs
