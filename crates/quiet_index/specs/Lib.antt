pub mod Indexed
pub mod PassOver
