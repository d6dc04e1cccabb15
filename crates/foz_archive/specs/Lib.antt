pub mod Reading
pub mod Refusal
pub mod Found
pub mod OnlyRead
pub mod Kept
pub mod Pushed
pub mod Opened
