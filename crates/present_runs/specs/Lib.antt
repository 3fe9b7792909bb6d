pub mod PresentRuns
