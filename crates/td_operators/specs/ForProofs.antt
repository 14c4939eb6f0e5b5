-- Words that only proofs and private functions use.
pub mod Leases
pub mod Lent
pub mod Kinds
pub mod Turns
pub mod Within
