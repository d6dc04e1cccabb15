pub mod Numbers
pub mod Rows
pub mod Loop
pub mod Shortest
pub mod Lengths
