-- Sizes: expressions, statements, waits and objects of which nothing is wrong have the sizes that they need.
pub mod Objects
pub mod Complete
pub mod Sized
pub mod Statements
pub mod Entries
pub mod Waits
pub mod Meant
pub mod NodeSizes
pub mod Narrow
pub mod Widths
pub mod SizedDesigns
pub mod WalkedNodes
