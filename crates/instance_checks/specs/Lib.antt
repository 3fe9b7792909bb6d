pub mod Offered
pub mod Ports
pub mod Children
