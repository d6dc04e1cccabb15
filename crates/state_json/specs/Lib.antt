pub mod Parsed
pub mod States
