pub mod Serving
pub mod Reading
pub mod Opening
pub mod Journaled
