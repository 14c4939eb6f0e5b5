-- The definitions of the crate.
pub mod Answers
pub mod Fields
pub mod Guards
pub mod Integers
pub mod Laws
pub mod Members
pub mod Orders
pub mod Requests
pub mod Resources
pub mod Rights
pub mod Services
pub mod Tags
