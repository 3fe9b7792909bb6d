pub mod Alike
pub mod Nets
pub mod Reads
