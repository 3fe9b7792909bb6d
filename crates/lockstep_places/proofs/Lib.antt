mod Phases
mod Blocks
mod Limits
