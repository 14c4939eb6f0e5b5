pub mod Moves
pub mod LineEnds
pub mod Contents
