pub mod Ties
pub mod Shelves
pub mod Calls
pub mod Seats
pub mod Threads
