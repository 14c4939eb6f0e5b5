pub mod ForProofs
pub mod Grammar
pub mod Laws
pub mod Statements
