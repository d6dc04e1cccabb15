pub mod Names
pub mod Modules
pub mod Seen
pub mod Answers
pub mod Answered
