mod Gathering
mod Finding
