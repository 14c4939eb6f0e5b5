pub mod Feeds
pub mod Pieces
pub mod Unequal
pub mod Places
pub mod Stays
pub mod Beyond
pub mod Keeping
pub mod Missing
