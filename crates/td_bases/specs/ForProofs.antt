-- Words that only proofs use.
pub mod Keyed
