pub mod ChangedKeys
pub mod LookupOrder
pub mod Partitions
pub mod SearchLaws
pub mod Searching
