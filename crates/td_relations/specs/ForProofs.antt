pub mod Abbreviations
pub mod Places
