pub mod Number
pub mod NumberLaws
pub mod Words
pub mod Forms
