pub mod Below
mod Lists
mod Pending
mod Puts
mod Woken
pub mod Written
