-- Words that clauses of private functions and proofs are written in. What the crate promises doesn't rest on them, but
-- for the laws that inference decides the typing and that a type stays where more is defined.
pub mod Growth
pub mod Infer
