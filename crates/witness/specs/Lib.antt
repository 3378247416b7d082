-- What a reader must believe of this crate: the chain that is shown, the history on which it is looked for, what is told of it, and
-- what is left in the lent numbers.
pub mod Witness
pub mod Found
pub mod Told
pub mod Links
pub mod Explains
pub mod Tells
-- Private contracts, which nothing public cites: the nodes and links by which chains are followed.
pub mod Nodes
