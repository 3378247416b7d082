-- What a reader must believe of this crate (change request No. 7): Judgements defines, Rights has the words of the theorems.
pub mod Judgements
pub mod Rights
-- Private contracts, which nothing public cites: how a right that returns is judged without a closure.
pub mod Returns
