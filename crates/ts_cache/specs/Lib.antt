pub mod Cached
pub mod Held
pub mod Indexed
pub mod Laws
pub mod Meeting
pub mod Value
