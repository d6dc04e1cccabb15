pub mod Pieces
pub mod Steps
pub mod Folds
pub mod Plain
pub mod CompactText
pub mod NoFloats
