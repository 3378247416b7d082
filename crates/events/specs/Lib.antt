-- What a reader must believe of this crate: an event, how many answers there is room for, what a call gathers.
pub mod Events
