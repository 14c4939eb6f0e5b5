pub mod Borrowed
pub mod Grants
pub mod Letters
pub mod Lines
pub mod Texts
pub mod Tokens
