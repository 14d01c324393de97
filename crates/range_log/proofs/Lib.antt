pub mod VoterLemmas
