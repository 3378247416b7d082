-- Laws on the words of a rule.

-- other crates cite these
pub mod WordLaws
pub mod KeptWords
pub mod ZeroLaws
pub mod KeptTest
-- inside this crate, for its functions
pub mod NormalTest
pub mod SortNetwork
pub mod Insertion
pub mod NormalInPlace
