-- The definitions of the crate.
pub mod Counted
pub mod Streams
pub mod Views
pub mod Lines
pub mod Laws
pub mod ForProofs
