pub mod Faults
pub mod Occurrences
pub mod Picks
pub mod Walks
pub mod Texts
