-- The definitions of the crate.
pub mod Meanings
pub mod Trees
pub mod Raises
pub mod Tests
pub mod Reports
pub mod Stored
pub mod Databases
pub mod Openings
pub mod Scripts
pub mod Answers
pub mod Given
pub mod Sources
pub mod Steps
pub mod Differences
pub mod Footprints
pub mod Counts
pub mod Laws
