pub mod Notes
pub mod Phases
pub mod Entries
pub mod Orders
pub mod Counted
pub mod Links
pub mod Index
pub mod Changes
