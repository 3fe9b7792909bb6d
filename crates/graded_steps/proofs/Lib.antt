mod Parted
mod Standing
mod Between
