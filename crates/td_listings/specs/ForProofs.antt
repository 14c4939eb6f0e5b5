-- Words that only proofs and private functions use.
pub mod Asked
pub mod Written
pub mod Scripted
