pub mod Additions
pub mod Looks
