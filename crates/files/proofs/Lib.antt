-- Calls one behind the other.
pub mod CallLaws
