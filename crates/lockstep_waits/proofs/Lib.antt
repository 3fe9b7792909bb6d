pub mod Going
pub mod Waiters
pub mod Texts
pub mod Begun
