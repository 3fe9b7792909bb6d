mod Taking
mod Looking
mod Keeping
mod Seeing
mod Standing
mod Showing
mod Passing
mod Telling
