pub mod Linear
pub mod Slices
pub mod Blocks
pub mod Vectors
