pub mod Crews
pub mod Kits
pub mod Roots
