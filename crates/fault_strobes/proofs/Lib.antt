pub mod Samples
pub mod Strobes
pub mod Ends
pub mod Faults
pub mod Reaching
