-- Cited by the crates above: what the view says, what a request is refused for and does, that rows stay as "Session" says.
pub mod ViewLaws
pub mod RowsKept
pub mod PlacedRows
pub mod PerformLaws
-- Inside: the tests one by one, the rows that a step finds, what is read and written, each operation.
pub mod RefusalTests
pub mod ReadyLaws
pub mod RowSteps
pub mod EffectLaws
