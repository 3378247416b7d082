-- The program's laws.
pub mod ListedTrace
