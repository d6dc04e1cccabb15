pub mod Tables
pub mod Plain
pub mod Made
pub mod Back
