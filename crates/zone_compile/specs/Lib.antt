pub mod Configuration
pub mod Json
pub mod JsonMembers
pub mod Laws
pub mod Text
