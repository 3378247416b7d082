-- Theorems is the file to read: what is proved of the policy image, stated and cited. The others prove it.
pub mod Theorems
-- other crates cite these
pub mod AcceptedImage
pub mod KindLaws
pub mod Decode
pub mod Encode
pub mod FramedSections
pub mod WrittenMeaning
pub mod WrittenOwners
pub mod OwnerLaws
pub mod Numbering
pub mod RecordsByPlace
pub mod RulesByNumber
-- inside this crate
pub mod ImageRefusals
pub mod FirstUses
pub mod RuleRecordScan
pub mod SpanWords
