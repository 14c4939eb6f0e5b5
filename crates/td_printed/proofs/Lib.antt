-- What the proofs of the crate share.
pub mod Catalogues
pub mod Queries
pub mod Listings
pub mod Tables
pub mod Printing
