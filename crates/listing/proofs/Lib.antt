-- For readers and other crates: Theorems has what is proved of numbers, lines and buffers, Examples the paper's listing, computed
-- from the definitions, Pieces how a list is cut.
pub mod Theorems
pub mod Examples
pub mod Pieces
-- Inside this crate: what proves the theorems and what the functions ensure.
pub mod Finite
pub mod NumberTexts
pub mod Hexadecimal
pub mod BufferLaws
pub mod ListingLines
pub mod Spelling
