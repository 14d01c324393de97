pub mod Added
pub mod Closing
pub mod Holding
pub mod Leases
pub mod Puts
pub mod Records
pub mod Resolves
