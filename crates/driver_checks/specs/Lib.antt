pub mod Driving
pub mod Seconds
pub mod Overlaps
pub mod TwoDrivers
