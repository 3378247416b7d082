-- WriterLaws, and RuleForms for rows, are the files that other producers of a policy cite. Theorems is the file to read. The others serve inside.
pub mod Theorems
pub mod WriterLaws
pub mod WrittenAnswers
pub mod FirstEqual
pub mod RuleForms
pub mod Classes
pub mod HashLaws
pub mod FirstUse
pub mod SectionRows
pub mod RuleRows
pub mod ImageBytes
pub mod NewNumbers
pub mod TableImage
pub mod FormRows
pub mod NormalCases
