pub mod Lines
pub mod Seen
pub mod HashLines
pub mod RecordLines
