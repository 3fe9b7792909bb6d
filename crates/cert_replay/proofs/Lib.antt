pub mod Words
pub mod Going
pub mod Lines
pub mod Turning
mod Looking
