pub mod AnswerText
pub mod CountsText
pub mod EntryText
pub mod LogText
pub mod MessageText
pub mod StateText
pub mod StepText
pub mod Text
