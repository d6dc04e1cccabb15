pub mod Notes
pub mod Counted
pub mod Steps
pub mod Seats
pub mod Turns
pub mod Askers
