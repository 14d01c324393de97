pub mod CacheLemmas
pub mod HeldLemmas
pub mod HighLemmas
pub mod IndexLemmas
pub mod KeyLemmas
pub mod LawLemmas
pub mod Order
pub mod RenewLemmas
