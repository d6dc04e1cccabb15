pub mod Results
pub mod Lists
pub mod Indexed
pub mod Numbers
pub mod Surveyed
pub mod Planned
pub mod Picked
