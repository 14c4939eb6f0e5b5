-- The proofs of the crate.
pub mod Keys
pub mod Tested
pub mod Judged
pub mod Agreeing
pub mod Apart
pub mod Legal
pub mod TreeReads
pub mod After
pub mod Gaining
pub mod Found
pub mod Losing
