-- Theorems is the file to read: what is proved of sets and rules, stated and cited. The others prove it.
pub mod Theorems
-- other crates cite these
pub mod SetLaws
pub mod RuleLaws
pub mod CoverLaws
pub mod MeetAll
pub mod MeetLaws
pub mod RefineLaws
pub mod PlacewiseLaws
pub mod BoundedLaws
pub mod SortLaws
-- inside this crate: how the normal form is made
pub mod KeptMixtures
pub mod SieveLaws
pub mod SieveRounds
pub mod ListedPairs
pub mod NineLaws
