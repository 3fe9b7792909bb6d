pub mod Outputs
pub mod Orders
