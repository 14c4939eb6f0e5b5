-- Words that only proofs and private functions use.
pub mod Lists
pub mod Given
pub mod Prepared
pub mod Names
pub mod Turning
