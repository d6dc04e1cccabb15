pub mod Shape
pub mod Words
pub mod WordLaw
pub mod Ordinary
pub mod Writes
pub mod Back
