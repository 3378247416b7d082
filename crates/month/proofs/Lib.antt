-- The program's laws.
pub mod CountedMonth
