-- Words that only proofs and private functions use.
pub mod Levels
pub mod Over
pub mod Standing
pub mod Latest
pub mod Found
pub mod Places
pub mod Right
pub mod Terms
pub mod Checks
pub mod ReadyTerms
pub mod Pinned
