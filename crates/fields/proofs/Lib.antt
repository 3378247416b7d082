-- Laws that the other crates cite.
pub mod FieldLaws
pub mod ByteLaws
pub mod SectionRecords
pub mod WritingLaws
pub mod RowWriting
pub mod WidthRows
