pub mod Waiting
pub mod Answering
pub mod Merging
pub mod Seats
pub mod Backs
pub mod Adding
pub mod Reporting
pub mod Leaving
