-- The definitions of the crate.
pub mod Catalogues
pub mod Definitions
pub mod ForProofs
pub mod Laws
pub mod Expressions
pub mod Reached
pub mod Statements
