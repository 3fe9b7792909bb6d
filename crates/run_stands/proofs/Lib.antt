mod Bodies
mod Waits
mod Reached
mod Stood
