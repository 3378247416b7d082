-- What a reader must believe of this crate: where governing rules come from, certificates, and what `why` tells.
pub mod Origins
pub mod Whys
pub mod Certified
-- Private contracts, which nothing public cites: the marks by which origins are followed.
pub mod Marks
