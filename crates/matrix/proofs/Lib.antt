-- Theorems is the file to read: the laws of this crate, stated and cited. Examples computes the starred example.
-- Other crates may cite GoodLaws, RowBits and CarrierLaws. The others serve inside.
pub mod Theorems
pub mod Examples
pub mod GoodLaws
pub mod RowBits
pub mod CarrierLaws
pub mod PathTest
pub mod CountLaws
pub mod RowLoops
pub mod PathFlows
pub mod SubjectReach
pub mod VerdictLoops
