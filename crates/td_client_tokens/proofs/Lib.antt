pub mod Endings
pub mod Maps
pub mod Steps
