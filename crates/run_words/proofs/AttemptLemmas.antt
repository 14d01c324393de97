use Rattle.std.proofs.Common.{◌≡◌, [], ◌∷◌, inl, inr, ⊎_elim, refl, sym, ap, ◌∙◌}
use Rattle.std.specs.Prelude.{◌==◌}
use Rattle.std.specs.List.{Contains}
use Rattle.mr_base.specs.declared.ids.AttemptId.{AttemptId}
use Rattle.range_log.specs.declared.entries.Entry.TheVariants as log
use Rattle.journal.specs.declared.entries.JournalEntry.TheVariants as entry
use Rattle.run_words.proofs.MemberLemmas.{contains_none, picked_cases, picked_in}
use Rattle.run_words.specs.History.{Made, History}
use Rattle.run_words.specs.Puts.{PutMade, puts}
use Rattle.run_words.specs.Relations.{WasServed, WasPut}
use Rattle.run_words.specs.Serving.{ServedRead, serves}
use Rattle.run_words.specs.Setup.{Setup}

-- the puts of an attempt were made in its name, and the other way round
pub put_was_made : (h : History) (a : AttemptId) (p : PutMade) → Contains (puts h a) p → WasPut a p h
put_was_made [] a p c = absurd (contains_none p c)
put_was_made (Made (entry.Append range index (log.Put attempt start anchor ts key value)) ∷ h) a p c =
    ⊎_elim (λ q. inl q) (λ q. inr (put_was_made h a p q)) (picked_cases (attempt.0 == a.0) attempt a _ p (puts h a) refl c)
put_was_made (x ∷ h) a p c = inr (put_was_made h a p c)

pub made_is_put : (h : History) (a : AttemptId) (p : PutMade) → WasPut a p h → Contains (puts h a) p
made_is_put [] a p w = absurd w
made_is_put (Made (entry.Append range index (log.Put attempt start anchor ts key value)) ∷ h) a p (inl q) =
    picked_in (attempt.0 == a.0) attempt a _ p (puts h a) refl (inl q)
made_is_put (Made (entry.Append range index (log.Put attempt start anchor ts key value)) ∷ h) a p (inr w) =
    picked_in (attempt.0 == a.0) attempt a _ p (puts h a) refl (inr (made_is_put h a p w))
made_is_put (x ∷ h) a p (inl q) = absurd q
made_is_put (x ∷ h) a p (inr w) = made_is_put h a p w

-- what was served to an attempt was served in its name, and the other way round
pub serve_was_served : (setup : Setup) (h : History) (a : AttemptId) (s : ServedRead) → Contains (serves setup h a) s
    → WasServed setup s h × (s.read.attempt ≡ a)
serve_was_served setup [] a s c = absurd (contains_none s c)
serve_was_served setup (Made (entry.Serve attempt node range span at limit count by known) ∷ h) a s c =
    ⊎_elim (λ q. (inl q.1, ap (λ (y : ServedRead). y.read.attempt) q.1 ∙ q.0))
    (λ q. let r : WasServed setup s h × (s.read.attempt ≡ a) = serve_was_served setup h a s q in (inr r.0, r.1))
    (picked_cases (attempt.0 == a.0) attempt a _ s (serves setup h a) refl c)
serve_was_served setup (x ∷ h) a s c =
    let r : WasServed setup s h × (s.read.attempt ≡ a) = serve_was_served setup h a s c in (inr r.0, r.1)

pub served_is_serve : (setup : Setup) (h : History) (a : AttemptId) (s : ServedRead) → WasServed setup s h → s.read.attempt ≡ a
    → Contains (serves setup h a) s
served_is_serve setup [] a s w e = absurd w
served_is_serve setup (Made (entry.Serve attempt node range span at limit count by known) ∷ h) a s (inl q) e =
    picked_in (attempt.0 == a.0) attempt a _ s (serves setup h a) refl
    (inl (sym (ap (λ (y : ServedRead). y.read.attempt) q) ∙ e, q))
served_is_serve setup (Made (entry.Serve attempt node range span at limit count by known) ∷ h) a s (inr w) e =
    picked_in (attempt.0 == a.0) attempt a _ s (serves setup h a) refl (inr (served_is_serve setup h a s w e))
served_is_serve setup (x ∷ h) a s (inl q) e = absurd q
served_is_serve setup (x ∷ h) a s (inr w) e = served_is_serve setup h a s w e
