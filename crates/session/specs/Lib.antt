-- What a reader must believe of this crate, in the order of the paper, "Session".
pub mod Limits
pub mod Rows
pub mod Session
