-- What the proofs of the crate share.
pub mod Steps
pub mod InTurn
pub mod Places
pub mod Vectors
pub mod Loops
pub mod Writing
pub mod Again
pub mod Spelled
pub mod GreetedAgain
pub mod GreetedSo
