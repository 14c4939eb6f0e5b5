pub mod Balance
pub mod Held
