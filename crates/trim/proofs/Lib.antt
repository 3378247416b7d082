-- Theorems is the file to read: what is proved of a trimmed trace. The others are its laws.
pub mod Theorems
pub mod Examples
pub mod MinimalTraces
pub mod ReplayLaws
pub mod PairLaws
pub mod PassLaws
pub mod NamedRows
pub mod WholeTraces
pub mod TrimLoop
pub mod TrimmedTraces
pub mod TrimCases
pub mod KeptFacts
