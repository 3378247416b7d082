-- What a reader must believe of this crate: change request No. 13, "Trim a trace to its alert".
pub mod Cuts
pub mod Trims
-- Private contracts, which nothing public cites: the sessions of a pass.
pub mod Replays
