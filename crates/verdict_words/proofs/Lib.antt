pub mod Sums
pub mod Parts
pub mod Steps
pub mod Told
pub mod OneMoves
pub mod JobSteps
pub mod OneFault
