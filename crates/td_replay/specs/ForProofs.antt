-- Words that only proofs and private functions use.
pub mod Going
pub mod Exchanging
pub mod Accessing
pub mod Told
pub mod Trying
pub mod Judged
pub mod Asked
pub mod Past
