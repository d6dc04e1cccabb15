pub mod Walking
pub mod Marking
pub mod Loading
pub mod Gathering
pub mod Asked
pub mod Sending
pub mod Messages
pub mod Telling
