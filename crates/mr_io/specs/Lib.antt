pub mod Faults
pub mod InMemory
pub mod Pieces
pub mod Streams
