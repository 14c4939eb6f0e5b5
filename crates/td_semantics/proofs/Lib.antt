-- The proofs of the crate.
pub mod Defining
pub mod OneOpening
pub mod Unique
pub mod Legal
pub mod Leading
