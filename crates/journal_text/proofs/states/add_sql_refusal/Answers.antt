use Rattle.std.proofs.Common.{append_assoc}
use Rattle.std.proofs.lemmas.Result.{IfOk-equal}
use Rattle.journal_text.proofs.states.add_sql_refusal.Goals as goal

-- The parts are appended one after the other.
pub returns : goal.returns
returns c = IfOk-equal _ _ _ _ c.end_line.ensures (simp (c.in_ok-add_sql_why.ensures, c.in_ok-add_words.ensures, append_assoc))
