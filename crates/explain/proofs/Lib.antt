-- The program's laws.
pub mod HandLaws
pub mod LackedMixtures
pub mod WhyAnswers
pub mod ExplainedRecords
pub mod WholeText
