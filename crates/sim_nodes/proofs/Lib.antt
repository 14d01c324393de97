pub mod BegunLemmas
pub mod ReaderLemmas
