-- Theorems is the file to read: the laws of this crate, stated and cited. Examples computes the starred example. The others serve inside.
pub mod Theorems
pub mod Examples
pub mod DerivedLaws
pub mod ContainerRows
pub mod PermitWords
pub mod DeriveCases
