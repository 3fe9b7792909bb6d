pub mod Meanings
pub mod Holding
pub mod Audits
