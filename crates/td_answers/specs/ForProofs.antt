-- Words that only proofs and private functions use.
pub mod Said
pub mod Drawn
pub mod Opened
