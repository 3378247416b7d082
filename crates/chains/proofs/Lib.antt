-- Read Theorems first: it states what is proved; the other files serve it.
pub mod Theorems
-- chains
pub mod ChainLaws
pub mod Inductive
pub mod Steps
-- rules, tags and rows that stand for chains
pub mod Exact
pub mod Rows
pub mod Start
pub mod ThreeAnswers
pub mod TableStates
pub mod GuardLaws
-- a whole list of records
pub mod Monitors
-- the table as a monitor, and the paper's listing run by it
pub mod TableMonitor
pub mod PaperSteps
