-- Theorems is the file to read: what is proved of the session, stated and cited. The others prove it.
pub mod Theorems
-- other crates cite these
pub mod RowMeaning
pub mod RowPuts
pub mod StartRows
pub mod StartRefusals
pub mod Canonical
-- inside this crate
pub mod RowTests
pub mod GoodRows
pub mod RowsOfOneWidth
pub mod StartedSession
pub mod WrittenRows
pub mod RecordRows
pub mod StartSteps
