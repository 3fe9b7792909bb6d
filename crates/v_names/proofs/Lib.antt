pub mod Entries
pub mod KnownLaws
pub mod PartLaws
pub mod ConstantReads
pub mod AskedLaws
pub mod PlaceLaws
