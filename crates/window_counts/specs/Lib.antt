pub mod WindowCounts
