pub mod Views
pub mod Behind
pub mod Fits
pub mod Readable
