pub mod Tokens
pub mod Trees
pub mod Views
pub mod ViewLaws
pub mod CaseParts
