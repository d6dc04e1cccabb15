pub mod Lines
pub mod Recording
pub mod Batches
pub mod Added
pub mod Capture
