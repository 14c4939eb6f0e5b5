-- What the proofs of the crate share.
pub mod Joining
pub mod Turns
pub mod Among
pub mod Scripts
pub mod Converging
pub mod Room
