-- Words that proofs and the calls which make a schema use: no promise on definitions, queries or statements rests on
-- them.
pub mod Additions
pub mod Codes
pub mod Latest
