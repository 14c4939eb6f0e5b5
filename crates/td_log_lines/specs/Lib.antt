pub mod Notices
pub mod Runs
pub mod Times
