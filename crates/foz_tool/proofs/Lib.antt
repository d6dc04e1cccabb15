pub mod Told
pub mod WorkerEnds
pub mod WorkerOneEnd
pub mod Dues
pub mod OutOfMemory
pub mod Answered
pub mod Replayed
