pub mod BlockEnds
pub mod Enders
