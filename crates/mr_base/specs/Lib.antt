pub mod Ids
pub mod Nodes
pub mod Scripts
pub mod Spans
pub mod States
pub mod Timestamps
