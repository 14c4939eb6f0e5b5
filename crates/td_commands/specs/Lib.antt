-- The definitions of the crate.
pub mod Lines
pub mod Commands
