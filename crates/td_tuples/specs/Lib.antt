pub mod Parts
pub mod Unions
pub mod Renamings
pub mod Nestings
pub mod Items
