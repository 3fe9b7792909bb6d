mod Ahead
mod Putting
mod Filling
mod Ticks
