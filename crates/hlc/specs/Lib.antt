pub mod Readings
pub mod Value
