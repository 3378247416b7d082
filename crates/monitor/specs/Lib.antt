-- What a reader must believe of this crate, in the order of the paper: the step, a run over many records, a run that stops, a trace in parts.
pub mod Steps
pub mod Runs
pub mod Stops
pub mod PartSessions
