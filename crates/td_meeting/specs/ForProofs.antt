-- Words that clauses of private functions and proofs are written in. What the crate promises does not rest on them.
pub mod Parts
pub mod Carried
