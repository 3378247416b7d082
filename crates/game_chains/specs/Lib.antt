-- What a reader must believe of this crate: the moves of a game as steps of the derived policy.
pub mod Histories
