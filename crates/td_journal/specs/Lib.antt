-- The definitions of the crate.
pub mod Views
pub mod Spelling
pub mod Written
pub mod Reading
pub mod Laws
pub mod Keeping
pub mod Keepers
pub mod Reopening
pub mod Stores
pub mod ForProofs
