-- Theorems is the file to read: what is proved of the events that a call gathers. The others prove it.
pub mod Theorems
pub mod EventLaws
pub mod EventWriting
pub mod GatherLoop
