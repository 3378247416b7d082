-- What a reader must believe of this crate, in the order of the paper, "Matrix". Rows says what a table of rows spells.
pub mod Limits
pub mod Flows
pub mod Verdicts
pub mod Rows
