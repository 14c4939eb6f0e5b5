-- The proofs of the crate.
pub mod Named
pub mod Placed
pub mod Known
pub mod Virtuals
pub mod Settled
pub mod Selected
pub mod AllThere
pub mod OfTypes
pub mod TypeNames
pub mod HasValues
pub mod Told
pub mod United
pub mod Rest
pub mod Exact
pub mod Selecting
pub mod Remade
pub mod ByKey
