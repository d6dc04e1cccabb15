pub mod Bytes
pub mod Hex
pub mod Key
pub mod Unit
