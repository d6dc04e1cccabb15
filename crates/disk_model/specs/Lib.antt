pub mod Disk
pub mod Faults
pub mod Filed
pub mod Latest
pub mod Memory
pub mod Place
pub mod Plans
