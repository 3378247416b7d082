-- Theorems is the file to read: the laws of this crate, stated and cited.
pub mod Theorems
pub mod HolderLaws
pub mod AtomStarts
