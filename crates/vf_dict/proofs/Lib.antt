pub mod Left
pub mod Listing
pub mod Sides
pub mod HardTimes
pub use Rattle.dict_windows.proofs.fault_grade as fault_grade
