pub mod RecordLaws
pub mod SlotRecordLaws
