-- Theorems is the file to read: what is proved of the monitor; Leaving has the numbers that an end or a delete leaves, Guarded the guarded
-- files. The others prove it.
pub mod Theorems
pub mod Leaving
pub mod Guarded
pub mod StepLaws
pub mod AnswerNumbers
pub mod AnswerPositions
pub mod BehalfLaws
pub mod LeavingLaws
pub mod UserLaws
pub mod StartView
pub mod RunHistories
pub mod TraceCuts
pub mod DemandLaws
pub mod StopLoop
pub mod StopLaws
pub mod Examples
pub mod PaperTrace
