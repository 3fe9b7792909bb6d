pub mod ReadingLaws
pub mod NameLaws
pub mod PartLaws
pub mod ExprLaws
pub mod TargetLaws
pub mod SpelledLaws
