-- What a reader must believe of this crate: Normaliser, and Writer, what a producer of a policy hands over and is answered.
pub mod Normaliser
pub mod Writer
-- Private contracts, which nothing public cites: the tables of the writer, how equal rules are found, and the sections that are
-- written.
pub mod Tables
pub mod Hashes
pub mod Sections
