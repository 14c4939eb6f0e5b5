-- What the proofs of the crate share.
pub mod Fields
pub mod Framed
pub mod Cut
pub mod Checked
pub mod Kept
pub mod Grown
pub mod Journaled
pub mod ComesBack
pub mod Stored
pub mod KeptOn
pub mod GoesOn
pub mod Failed
