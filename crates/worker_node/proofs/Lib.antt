pub mod Runs
pub mod OneEnd
pub mod Payloads
pub mod Endings
pub mod Taken
