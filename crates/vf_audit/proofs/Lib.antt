pub mod Printed
pub mod Reached
pub mod Sections
pub mod SampleLists
pub mod Shown
pub mod LinesBehind
pub mod Staging
pub mod Claims
