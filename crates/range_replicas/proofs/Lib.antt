mod LogLemmas
mod PlaceLemmas
mod SoundLemmas
mod VoterLemmas
