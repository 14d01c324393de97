pub mod AttemptLemmas
pub mod HappenedLemmas
pub mod LogLemmas
pub mod MemberLemmas
