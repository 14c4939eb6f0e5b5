-- Words that only proofs use.
pub mod Ways
pub mod Standing
pub mod Marked
