pub mod Signing
pub mod Counting
pub mod Steps
pub mod Turning
