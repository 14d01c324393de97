use Rattle.std.proofs.lemmas.Fmt.{contents_after_writes}
use Rattle.std.proofs.lemmas.Option.{IfSome_then}
use Rattle.journal_text.proofs.buffer.TextBuffer.add_shown.Goals as goal

-- Each part that is written is appended, so the whole text is.
pub returns-in-Ok : goal.returns-in-Ok
returns-in-Ok g c = IfSome_then _ c.in-Ok.ensures.writes (λ text w. contents_after_writes _ (λ t. t) (λ _ _ _ t. t) _ text _ w)
