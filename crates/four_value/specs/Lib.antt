pub mod Bits
pub mod Values
pub mod ValueLaws
pub mod Planes
pub mod PlanesLaws
pub mod Operators
