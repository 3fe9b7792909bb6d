pub mod Firsts
pub mod Graders
pub mod Verdicts
