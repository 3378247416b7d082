-- Theorems is the file to read: what is proved of the listing of a trace. Examples has the paper's listing, computed. The others
-- prove it.
pub mod Theorems
pub mod Examples
pub mod CutListings
pub mod ListedParts
