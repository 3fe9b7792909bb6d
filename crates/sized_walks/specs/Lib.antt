pub mod Texts
pub mod EntryLaws
pub mod NarrowLaws
pub mod NodeLaws
pub mod TextLaws
