-- What a reader must believe of this crate (change requests No. 6 and 9), in the order of the request: the figures of a list of answers, the
-- lines that show them, the text of a month; then the numbers that the code keeps figures in, and the records at which an alert is due, or
-- which are to be blocked.
pub mod Figures
pub mod Lines
pub mod Months
pub mod Counters
pub mod Positions
-- Private contracts, which nothing public cites: the room that a line needs.
pub mod Buffer
