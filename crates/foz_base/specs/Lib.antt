pub mod Outside
pub mod Status
pub mod Ending
pub mod InputRead
pub mod FileRead
pub mod FileWork
pub mod Recording
