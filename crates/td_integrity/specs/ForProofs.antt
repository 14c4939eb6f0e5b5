-- Words that only proofs and private functions use.
pub mod Tested
pub mod Changed
pub mod Gaining
pub mod Leaving
pub mod Losing
pub mod Found
