pub mod Ties
pub mod Places
pub mod Growth
pub mod Turns
pub mod Seated
pub mod Ranks
pub mod Threads
pub mod Others
