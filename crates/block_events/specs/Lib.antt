pub mod Runners
pub mod Going
