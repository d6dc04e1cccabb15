pub mod Words
pub mod Lines
pub mod Counted
pub mod Overall
pub mod Text
