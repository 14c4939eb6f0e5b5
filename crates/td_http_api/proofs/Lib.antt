-- The lemmas of the crate.
mod Admitting
mod FieldLemmas
mod Rights
mod Tokens
mod Weaker
