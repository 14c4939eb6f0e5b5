-- Words that clauses of private functions and proofs are written in. What the crate promises doesn't rest on them.
pub mod Held
