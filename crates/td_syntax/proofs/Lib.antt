pub mod Depths
pub mod Within
