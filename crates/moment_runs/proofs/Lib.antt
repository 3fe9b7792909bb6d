mod Found
pub mod Taking
