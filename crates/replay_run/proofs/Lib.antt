pub mod Short
pub mod Seen
pub mod Undecided
