pub mod HexIsText
pub mod Chain
pub mod Loop
pub mod Puts
pub mod RoundTrip
pub mod Floats
pub mod Depth
