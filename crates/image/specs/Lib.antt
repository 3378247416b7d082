-- What a reader must believe of this crate, in the order of the paper, "Policy image".
pub mod Limits
pub mod Policy
pub mod Image
pub mod Normal
