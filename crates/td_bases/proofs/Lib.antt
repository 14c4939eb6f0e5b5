pub mod Keyed
pub mod Lists
pub mod Replacing
pub mod Returning
