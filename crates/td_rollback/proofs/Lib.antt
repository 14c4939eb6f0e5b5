-- The proofs of the crate.
pub mod Members
pub mod More
pub mod Counting
pub mod Counted
pub mod Recorded
pub mod Selecting
pub mod Settling
pub mod Standing
pub mod Coming
pub mod Ends
pub mod Parting
pub mod Commuting
pub mod Conflicting
pub mod Fewer
pub mod Flagging
pub mod Unmarked
pub mod Placing
