use Rattle.journal_text.proofs.MoreNames.{entry_text-more, texts-more}
use Rattle.journal_text.proofs.text.texts_stay.Goals as goal

pub returns-clause-entry : goal.returns-clause-entry
returns-clause-entry c = entry_text-more

pub returns-clause-texts : goal.returns-clause-texts
returns-clause-texts c = texts-more
