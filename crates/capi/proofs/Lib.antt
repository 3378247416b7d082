-- Theorems is the file to read: what a host may rely on from one call to another.
pub mod Theorems
