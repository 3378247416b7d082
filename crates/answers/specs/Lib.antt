-- What a reader must believe of this crate: the refusal numbers, the answer to a record with its number and values, the tally.
pub mod Refusals
pub mod Outcomes
pub mod Answers
pub mod Tallies
