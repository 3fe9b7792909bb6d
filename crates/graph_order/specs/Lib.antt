pub mod ListLaws
pub mod Digraphs
pub mod Sorting
pub mod Greatest
pub mod Depths
pub mod Searching
