-- What a reader must believe of this crate: numbers in bytes, records of one width, bytes written at a place, and quoted texts.
pub mod Bytes
pub mod Writing
pub mod Ascii
