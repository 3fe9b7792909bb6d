pub mod Tables
pub mod Lists
pub mod FlagLaws
pub mod Turns
pub mod Once
pub mod Trees
pub mod Ends
