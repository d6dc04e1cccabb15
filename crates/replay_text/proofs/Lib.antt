pub mod Decided
pub mod Ranges
pub mod Rows
pub mod Texts
