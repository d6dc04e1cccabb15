pub mod Told
pub mod Batched
pub mod Work
pub mod Merged
pub mod Team
