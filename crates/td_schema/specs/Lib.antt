-- The definitions of the crate.
pub mod Results
pub mod Kinds
pub mod Schemas
pub mod Scopes
pub mod Written
pub mod Lists
pub mod Operators
pub mod Forms
pub mod ForProofs
