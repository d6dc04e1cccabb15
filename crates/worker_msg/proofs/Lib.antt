pub mod Parts
pub mod Exclusive
pub mod WorkFronts
pub mod CrewFronts
pub mod Whole
pub mod Taking
pub mod Rows
