pub mod Tapes
pub mod Acts
pub mod Slots
