-- Words that only proofs and private functions use.
pub mod Emptied
pub mod Written
