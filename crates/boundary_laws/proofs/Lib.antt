mod Parts
mod Steps
mod Between
mod Pending
mod Later
mod Ends
mod Wakes
