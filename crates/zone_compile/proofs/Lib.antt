pub mod OneColumn
pub mod Forms
pub mod JsonLemmas
mod Formed
mod OfTables
