pub mod Rows
pub mod Names
pub mod Parameters
pub mod Forms
pub mod OwnParts
