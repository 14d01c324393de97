pub mod Kept
pub mod LedgerValue
