pub mod Turns
pub mod NameLaws
