-- What a reader must believe of this crate: View and Effects.
pub mod View
pub mod Effects
-- Private contracts, which nothing public cites: what is tested before a meet is formed, and the parts of an operation.
pub mod EarlyTests
