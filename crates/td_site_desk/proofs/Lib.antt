mod Keyed
mod Rights
pub mod Runs
mod Told
