-- Theorems is the file to read: the laws of this crate, stated and cited. Examples computes a text for each clause. The others serve
-- inside: the policy of profiles is one that an image can spell; the tables of numbers tell of the profiles; loops.
pub mod Theorems
pub mod Examples
pub mod ProfileLaws
pub mod RunMixtures
pub mod PathsNamed
pub mod PathOrder
pub mod LineModes
pub mod RuleWords
pub mod PolicyLaws
pub mod ModeBits
pub mod ModeTables
pub mod LoopLaws
pub mod ListedLaws
pub mod PathRuleRows
pub mod PathSearch
pub mod LineWalks
pub mod EntryLaws
pub mod LineAdditions
pub mod FilledTables
pub mod TablePolicy
pub mod DeriveLaws
