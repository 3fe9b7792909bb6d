pub mod Marked
pub mod MarkLaws
pub mod Rooms
pub mod NodeLaws
