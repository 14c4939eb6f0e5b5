-- The proofs of the crate.
mod Growing
