pub mod Ready
pub mod Leading
