-- What a reader must believe of this crate: a rule as the nine words that a session and the tables of the normaliser keep.
pub mod Words
-- Private contracts, which nothing public cites: how a rule is tested and sorted in its words.
pub mod InPlace
