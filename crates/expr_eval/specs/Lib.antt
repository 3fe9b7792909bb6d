pub mod Operands
pub mod WidthLaws
pub mod PartLaws
pub mod PartsLaws
