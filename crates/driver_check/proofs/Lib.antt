pub mod Coded
pub mod Dependence
