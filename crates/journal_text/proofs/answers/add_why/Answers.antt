use Rattle.journal_text.proofs.answers.add_why.Goals as goal

pub returns-in-Conflict : goal.returns-in-Conflict
returns-in-Conflict c = rw c.in-Conflict.is c.add_field.ensures

pub returns-in-Aborted : goal.returns-in-Aborted
returns-in-Aborted c = rw c.in-Aborted.is c.add_field-in-Aborted.ensures

pub returns-in-Retries : goal.returns-in-Retries
returns-in-Retries c = rw c.in-Retries.is c.add_words.ensures
