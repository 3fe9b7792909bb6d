pub mod Bases
pub mod Processes
pub mod Inputs
pub mod Nodes
pub mod Texts
