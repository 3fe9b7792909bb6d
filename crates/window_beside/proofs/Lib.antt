mod Finding
mod Times
mod Taken
mod Known
