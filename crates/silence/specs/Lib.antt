-- What a reader must believe of this crate: change request No. 8, "A matrix under which nothing can sound".
pub mod Silent
pub mod Sessions
-- Private contracts, which nothing public cites: how it is worked out.
pub mod Tables
