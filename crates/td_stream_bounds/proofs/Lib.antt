-- What the proofs of the crate share.
pub mod Fronts
pub mod Greetings
pub mod Streams
pub mod Scans
