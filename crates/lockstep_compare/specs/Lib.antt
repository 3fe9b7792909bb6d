pub mod Among
pub mod Compared
