pub mod Counts
mod Parted
mod Told
mod Stepping
