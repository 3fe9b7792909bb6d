pub mod Noted
pub mod Rows
pub mod CodeFaults
pub mod BoundViews
pub mod RangeViews
