-- Theorems is the file to read: the laws of this crate, stated and cited. Examples computes games.
pub mod Theorems
pub mod Examples
pub mod GamePositions
pub mod MoveSetLaws
pub mod RightSets
pub mod Turns
pub mod IdleLaws
pub mod DeskLaws
pub mod FirstMoves
pub mod OutcomeLaws
pub mod StrategyLaws
pub mod GameFlows
pub mod GameAnswers
