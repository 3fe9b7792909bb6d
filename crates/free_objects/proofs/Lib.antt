pub mod EventAccesses
pub mod Raw
pub mod Sole
pub mod NetWrites
pub mod Stretches
pub mod MetAccesses
