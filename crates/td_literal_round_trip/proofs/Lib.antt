-- The proofs of the crate.
pub mod Trees
pub mod Headings
pub mod Meant
pub mod Tokens
pub mod Reading
pub mod Shallow
pub mod Pieces
pub mod Lexing
pub mod ReadBack
