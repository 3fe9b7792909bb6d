pub mod Bytes
pub mod Numbers
pub mod Words
pub mod Texts
pub mod Reading
pub mod Classes
