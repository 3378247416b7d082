-- What a reader must believe of this crate, in the order of the paper, "Information and rules".
pub mod Sets
pub mod Rules
pub mod Order
pub mod Answers
pub mod Placewise
-- Private contracts, which nothing public cites: how the normal form is made.
pub mod Sieve
pub mod Nine
