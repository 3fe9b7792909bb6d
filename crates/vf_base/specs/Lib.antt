pub mod Base
pub mod Counts
pub mod Shelf
pub mod Sink
pub mod MemShelf
pub mod MemSink
pub mod Lists
