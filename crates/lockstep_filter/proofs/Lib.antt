pub mod OwnBlocks
pub mod Stretches
pub mod Free
