pub mod Notes
pub mod RunRecords
