mod Woken
mod Told
mod One
