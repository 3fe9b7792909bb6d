pub mod Cutting
pub mod Representing
pub mod Covering
pub mod Listing
