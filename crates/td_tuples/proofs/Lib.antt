pub mod Lists
pub mod ByName
pub mod SideBySide
pub mod Steps
pub mod Filters
pub mod Searches
pub mod Inner
