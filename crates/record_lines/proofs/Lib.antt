pub mod Batches
pub mod Added
pub mod SoFar
pub mod Images
pub mod Apart
