mod Processes
mod Stood
