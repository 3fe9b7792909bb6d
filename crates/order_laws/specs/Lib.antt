pub mod Reports
pub mod FirstRuns
pub mod EveryRun
pub mod Settling
pub mod NodesRest
