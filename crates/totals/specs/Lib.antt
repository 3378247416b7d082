-- What a reader must believe of this crate: figures as numbers, what a call counts, what is added; how the code counts.
pub mod Totals
pub mod Places
