-- What a reader must believe of this crate: change request No. 14, "Desk against guard". Strategies has the words of the theorems.
pub mod Limits
pub mod Positions
pub mod Games
pub mod Outcomes
pub mod Strategies
-- Private contracts, which nothing public cites: how the game is searched.
pub mod Search
