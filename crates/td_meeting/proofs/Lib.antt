-- What the proofs of the crate share.
pub mod Places
pub mod Sound
pub mod Greeting
pub mod InTurn
pub mod Told
pub mod Whole
pub mod Steady
pub mod Carrying
pub mod Exchanged
pub mod Stepping
pub mod Unions
