mod Between
mod Copies
