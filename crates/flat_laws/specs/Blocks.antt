-- Blocks that are nodes, and processes: what they name, read and write.
pub mod Named
pub mod Written
pub mod Targets
pub mod Formed
pub mod BlockNodes
pub mod Fitting
pub mod Forms
pub mod BlockWrites
pub mod Writes
