-- Words that only proofs and private functions use.
pub mod Accessed
pub mod Depending
pub mod Growing
