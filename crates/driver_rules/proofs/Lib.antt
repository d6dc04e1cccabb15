pub mod Apart
pub mod Broken
pub mod Described
