-- What the proofs of the crate share.
pub mod Sound
pub mod Calling
