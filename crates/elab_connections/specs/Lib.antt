pub mod PathViews
pub mod WidePorts
pub mod NodeCounts
pub mod OutputRuns
