pub mod RecordLaws
pub mod ResultLaws
pub mod ExportLaws
pub mod RefusedKeeps
