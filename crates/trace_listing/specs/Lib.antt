-- What a reader must believe of this crate (the paper, "Checked examples", from "The watch program reads"): the listing of a whole
-- trace, and of a part of one.
pub mod Listings
pub mod PartListings
