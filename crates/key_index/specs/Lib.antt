pub mod Places
pub mod Indexes
pub mod Walks
pub mod Groups
pub mod KeyLists
