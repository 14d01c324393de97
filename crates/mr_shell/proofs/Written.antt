-- What a sink has been given.
use Rattle.std.proofs.Common.{◌≡◌, ℕ, List, [], ◌++◌, Option, ap, sym, ◌∙◌, take}
use Rattle.std.specs.Io.KnownBytes.{append_known}
use Rattle.mr_io.proofs.Told.{append_known-append, append_known-nil}
use Rattle.mr_shell.specs.Texts.{Wrote, WrotePart}

-- what was written in two pieces
pub wrote-more : (start mid written : Option (List ℕ)) (xs ys : List ℕ) → Wrote start mid xs → Wrote mid written ys → Wrote start written (xs ++ ys)
wrote-more start mid written xs ys h k = k ∙ (ap (λ (o : Option (List ℕ)). append_known o ys) h ∙ append_known-append start xs ys)

pub wrote-same : (start written : Option (List ℕ)) → Wrote start written [] → written ≡ start
wrote-same start written h = h ∙ sym (append_known-nil start)

-- a part of a text behind another text
pub part_behind : (start mid written : Option (List ℕ)) (shown text : List ℕ) → Wrote start mid shown → WrotePart mid written [] text → WrotePart start written shown text
part_behind start mid written shown text h w = (w.0, w.1, wrote-more start mid written shown (take w.0 text) h w.2)
