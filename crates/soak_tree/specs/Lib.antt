pub mod SoakUnits
pub mod Stages
