-- Theorems has what is proved of this crate; the others carry it.
pub mod ComposedLaws
pub mod ConsentLaws
pub mod UseLaws
pub mod ImageLaws
pub mod ConsentLoops
pub mod EnteringLoop
pub mod UseRows
pub mod UseNumbers
pub mod RowLoop
pub mod RecordLoops
pub mod PairPolicy
pub mod SelfComposition
pub mod ComposeCases
pub mod Theorems
pub mod Examples
