-- Words that only proofs and private functions use.
pub mod Environments
pub mod Forms
pub mod ByKey
