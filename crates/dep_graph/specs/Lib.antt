pub mod Classes
pub mod Items
pub mod Graphs
pub mod Surveys
