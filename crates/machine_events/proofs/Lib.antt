pub mod Written
pub mod Finished
pub mod Recorded
pub mod NodesOn
