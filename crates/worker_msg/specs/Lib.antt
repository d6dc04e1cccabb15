pub mod Frames
pub mod Fronts
pub mod Feeds
pub mod Streams
