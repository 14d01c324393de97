pub mod FirstLemmas
pub mod AppendLemmas
pub mod FrontLemmas
pub mod LineLemmas
pub mod MailLemmas
pub mod NodeLemmas
pub mod RunningLemmas
