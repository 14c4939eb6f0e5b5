mod Comments
mod Digits
mod Filters
pub mod Found
pub mod Once
pub mod Names
