-- What the other crates say of lists and of tests in their order; no part of the paper alone.
pub mod Lists
pub mod Counting
pub mod Conditions
