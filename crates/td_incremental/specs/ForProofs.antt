-- Words that only proofs and private functions use.
pub mod Deciding
pub mod Referring
