pub mod ObjectLists
pub mod Selects
