pub mod KeepsReads
pub mod Laws
