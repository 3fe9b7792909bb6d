mod Counts
mod Choices
mod Rising
