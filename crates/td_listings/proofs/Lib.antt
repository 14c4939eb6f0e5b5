-- The lemmas of the crate.
mod Showing
mod Relvars
mod Told
mod Lines
mod Cells
mod Found
mod Tabulated
mod Agree
mod Accepted
