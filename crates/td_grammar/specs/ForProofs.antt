-- Words that clauses of private functions and proofs are written in. What the crate promises doesn't rest on them, but
-- for the laws that say of the reader that it decides the grammar.
pub mod Reader
pub mod Readings
pub mod Refusals
pub mod StatementReader
