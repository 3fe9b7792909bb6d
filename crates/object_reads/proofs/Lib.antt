mod Ascents
mod Threes
