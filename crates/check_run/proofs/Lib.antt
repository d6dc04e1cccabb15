pub mod Driven
pub mod Answered
pub mod Fated
