-- Theorems is the file to read; Cases is what other crates tell answers apart by, and Outcomes what they know of an outcome's number.
pub mod Cases
pub mod Outcomes
pub mod Theorems
