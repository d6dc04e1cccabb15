pub mod WordLaws
pub mod Elements
pub mod Writing
