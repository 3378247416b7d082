-- Theorems is the file to read: what is proved of codes and records. CodeLaws, RecordLaws and TraceRecords are cited by other
-- crates; TestLaws serves inside.
pub mod Theorems
pub mod CodeLaws
pub mod RecordLaws
pub mod TestLaws
pub mod TraceRecords
