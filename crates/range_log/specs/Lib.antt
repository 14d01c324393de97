pub mod Appends
pub mod Facts
pub mod Kept
pub mod LogValue
