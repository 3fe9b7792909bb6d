mod Gone
mod Told
