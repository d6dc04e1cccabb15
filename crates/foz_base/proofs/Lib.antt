pub mod Taken
pub mod InputRead
