-- What a reader must believe of this program: `explanations_of` in Texts, the text of a policy and a trace, and `ExplanationsShown` in Runs, that it
-- is what was handed to standard output. The other records of Runs state what the program's private functions have done.
pub mod Texts
pub mod Runs
