pub mod ConcludeLemmas
pub mod FateLemmas
pub mod OkLemmas
pub mod OrderLemmas
pub mod ResolveLemmas
pub mod SentLemmas
pub mod SoundLemmas
pub mod TakenLemmas
