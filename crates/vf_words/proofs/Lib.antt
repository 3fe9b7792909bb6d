mod Parsed
mod Kept
