-- What a reader must believe of this crate: the lines that explain an alert or a blocked access, and how much room they need.
pub mod Lines
pub mod Buffer
