mod Causes
mod Phases
mod Windows
