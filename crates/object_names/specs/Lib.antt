pub mod NameTables
pub mod NameViews
pub mod NamesInside
pub mod Instances
pub mod OutputViews
