-- What a reader must believe of this crate: Derived.
pub mod Derived
