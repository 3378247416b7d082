-- What the contracts of this crate cite: what the system was asked and how it answered.
pub mod Calls
