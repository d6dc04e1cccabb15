pub mod Works
pub mod Logs
pub mod Loads
pub mod Answers
pub mod Telling
pub mod Laws
pub mod Views
