pub mod ElabFaults
pub mod Elements
pub mod ElementLaws
pub mod Meanings
