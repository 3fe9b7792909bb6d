pub mod Records
pub mod SlotLogs
pub mod SlotRecords
pub mod SlotEnds
