pub mod AppliedLemmas
pub mod AttemptLemmas
pub mod CommitLemmas
pub mod FateLemmas
pub mod LawfulLemmas
pub mod PutLemmas
