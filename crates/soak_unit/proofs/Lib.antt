pub mod Scanned
pub mod Lines
pub mod Named
pub mod Spelled
