-- The proofs of the crate.
pub mod Errors
pub mod Shapes
pub mod Attributes
pub mod Values
pub mod Relations
pub mod Tables
pub mod OneOperand
pub mod TwoOperands
pub mod Nesting
pub mod Closing
pub mod OverTuples
pub mod Scoped
pub mod Lists
pub mod Forms
pub mod Sound
