-- Words that only private clauses and proofs use, and the laws that decide definitions and type what they leave.
pub mod After
pub mod Changes
pub mod Codes
pub mod KeptConstraints
pub mod RelvarsRead
pub mod Sources
pub mod TestNames
pub mod WellTyped
