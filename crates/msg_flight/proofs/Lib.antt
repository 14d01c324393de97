pub mod FiledLemmas
pub mod FreeLemmas
pub mod SentLemmas
pub mod TakenLemmas
