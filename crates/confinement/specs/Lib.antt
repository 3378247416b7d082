-- What a reader must believe of this crate (change request No. 1): the policy that profiles stand for, and the image that is written.
-- Sentences has the words of the theorems.
pub mod Confinement
pub mod Images
pub mod Sentences
-- Private contracts, which nothing public cites: what is kept of a text, and the pass over it.
pub mod Tables
pub mod Scans
