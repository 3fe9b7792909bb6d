pub mod Beside
pub mod Rises
pub mod Running
pub mod Standing
pub mod Grading
