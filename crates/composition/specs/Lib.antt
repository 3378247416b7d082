-- What a reader must believe of this crate (change request No. 11): how two rules, two uses of a rule and two policies are composed, and
-- what two images are refused for and answered.
pub mod Composed
pub mod Images
-- Private contracts, which nothing public cites: the rows that are handed to the writer.
pub mod Tables
