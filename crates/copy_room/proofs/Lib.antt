mod Placing
mod Standing
mod Puts
mod Entered
mod Keeping
