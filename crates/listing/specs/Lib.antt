-- What a reader must believe of this crate (the paper, "Checked examples", from "The watch program reads"): numbers and
-- words as bytes, the lines, and what it is to write a text into a buffer.
pub mod Text
pub mod Lines
pub mod Buffer
