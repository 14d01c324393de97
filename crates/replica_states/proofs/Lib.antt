pub mod MakingLemmas
pub mod OneRange
pub mod RangeLemmas
pub mod RestartLemmas
pub mod RestartTies
