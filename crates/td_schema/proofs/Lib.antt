pub mod Found
pub mod KindLemmas
pub mod Latests
pub mod Distinct
pub mod Writings
