-- Theorems is the file to read: the laws of this crate, stated and cited. Examples computes judgements. The others serve inside.
pub mod Theorems
pub mod Examples
pub mod TransitiveLaws
pub mod ReturnedRights
pub mod FitLaws
pub mod NeedLaws
pub mod JudgementTests
pub mod ConditionLaws
