pub mod Checks
pub mod Fated
