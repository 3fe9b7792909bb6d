pub mod Stems
pub mod StemLaws
pub mod Forms
pub mod Watched
pub mod Spelled
pub mod Plain
pub mod Steps
