-- What a reader must believe of this crate: the codes, the operation record (refusal 7), and the records of a trace.
pub mod Codes
pub mod Records
pub mod Traces
-- Private contracts, which nothing public cites: how a record is judged in one number.
pub mod Numbers
