pub mod Listings
pub mod SideBySide
pub mod HardStrobes
pub mod Loops
pub mod Ticks
pub use Rattle.dict_windows.specs.fault_grade as fault_grade
