pub mod Faulty
pub mod FaultyLaws
pub mod Statuses
pub mod StatusLaws
