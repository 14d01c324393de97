pub mod Laws
pub mod Nodes
pub mod Ranges
pub mod Refusals
pub mod Report
pub mod Statements
