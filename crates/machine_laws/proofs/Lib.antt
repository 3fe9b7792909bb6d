pub mod Places
pub mod Moments
pub mod Ends
pub mod Stretches
pub mod FewPhases
