-- Theorems is the file to read: what is proved of the month's figures. Examples has lines and a month, computed. The others prove it.
pub mod Theorems
pub mod Examples
pub mod FigureLaws
pub mod CounterLaws
pub mod FigureLines
pub mod CountedParts
pub mod MonthLaws
pub mod MonthReads
pub mod LongLaws
pub mod AlertLaws
