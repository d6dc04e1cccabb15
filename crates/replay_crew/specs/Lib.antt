pub mod Jobs
pub mod Loading
pub mod Kits
pub mod Readings
pub mod Asking
pub mod Steps
