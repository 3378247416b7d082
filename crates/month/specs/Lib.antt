-- What a reader must believe of this program: `MonthShown`, what it read and what it handed to standard output (the text is `month_text` of crate figures). The
-- other records state what the program's private functions have done.
pub mod Runs
