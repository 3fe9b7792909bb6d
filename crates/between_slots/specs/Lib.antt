pub mod Between
pub mod WindowLaws
pub mod Updates
pub mod UpdateLaws
pub mod FewLaws
