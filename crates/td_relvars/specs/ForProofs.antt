-- Words that only proofs and private functions use.
pub mod Empty
pub mod Asked
pub mod Opened
pub mod Standing
pub mod Kept
