mod Alike
mod Nets
mod Touched
