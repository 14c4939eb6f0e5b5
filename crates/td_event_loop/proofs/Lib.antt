pub mod Answered
pub mod Passing
pub mod Shown
pub mod Turns
