pub mod ObjectViews
pub mod PieceLaws
pub mod WordLaws
pub mod Driven
pub mod Found
