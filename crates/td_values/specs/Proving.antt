-- Words that only proofs use: no meaning of a public clause turns on them.
--     Code, Measures, Sizes, Falls      values as trees of numbers, and how large they are: what a type that holds
--     itself needs
--     Compose, Total      that the orders are total, and that only equal values tie
--     Places      what a search among entries answers to its caller within the crate
pub mod Code
pub mod Compose
pub mod Falls
pub mod Measures
pub mod Places
pub mod Sizes
pub mod Total
