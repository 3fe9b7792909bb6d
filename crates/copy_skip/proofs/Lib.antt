mod Passed
pub mod Limited
mod There
