pub mod Meanings
pub mod CaseItems
pub mod Branches
pub mod Texts
