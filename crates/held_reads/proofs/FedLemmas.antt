use Rattle.std.proofs.Common.{◌≡◌, ℕ, zero, suc, ◌<◌, List, [], ◌∷◌, map, length, slice_index_or, inl, inr, ⊎_elim, refl, sym, subst, arith}
use Rattle.std.specs.Prelude.{◌↔◌, All, AllPairs}
use Rattle.std.specs.List.{Contains}
use Rattle.std.specs.FinMap.Entries.{where_key}
use Rattle.std.proofs.lemmas.List.Elements.{All-append}
use Rattle.mr_base.specs.Spans.{InSpan, IsKeyBelow}
use Rattle.mr_base.specs.declared.script.Fed.{Fed}
use Rattle.mr_base.specs.declared.spans.Ask.{Ask}
use Rattle.mr_base.specs.declared.spans.Pair.{Pair}
use Rattle.mvcc_range.specs.Answer.{IsRow}
use Rattle.row_locality.proofs.PointLemmas.{is_in_decides}
use Rattle.row_locality.specs.Pairs.{KeyValue, bytes_cmp, key_value}
use Rattle.row_locality.specs.Plain.{PlainDatabase, range_pairs}
use Rattle.row_locality.specs.Spans.{is_in}
use Rattle.held_reads.proofs.AgreementLemmas.{AreAbove, Has, IsRising, has_kept, has_of, kept_has, of_has, rising_by_test, same_list, still_rising}
use Rattle.held_reads.proofs.BeginningFacts.{range_sorted}
use Rattle.held_reads.proofs.HeldLemmas.{served_held}
use Rattle.held_reads.specs.KeepsReads.{KeepsReads}
use Rattle.held_reads.specs.Laws.{IsHeldBelow}
use Rattle.run_laws.specs.Beginnings.{IsSoundSetup}
use Rattle.run_laws.specs.Held.{IsHeld}
use Rattle.run_laws.specs.Lists.{AreFed, IsFedBy}
use Rattle.run_words.proofs.MemberLemmas.{contains_cases, contains_first, contains_later, contains_none}
use Rattle.run_words.specs.History.{History}
use Rattle.run_words.specs.Ranges.{layout_of}
use Rattle.run_words.specs.Relations.{WasServed}
use Rattle.run_words.specs.Serving.{ServedRead}
use Rattle.run_words.specs.Setup.{Setup}
use Rattle.sql_eval.specs.Agreement.{Agrees, AgreesOn}

-- rows as pairs of key and value
rows_above : (k : List ℕ) (ps : List Pair) → ((n : ℕ) (d : Pair) → n < length ps → IsKeyBelow k (slice_index_or ps n d).key) → AreAbove k (map key_value ps)
rows_above k [] f = tt
rows_above k (q ∷ qs) f = (f 0 q (omega arith), rows_above k qs (λ n d l. f (suc n) d (omega (arith, l))))

rows_rising : (ps : List Pair) → AllPairs (λ p q. IsKeyBelow p.key q.key) ps → IsRising (map key_value ps)
rows_rising [] all = tt
rows_rising (p ∷ ps) all =
    (rows_above p.key ps (λ n d l. all 0 (suc n) d (omega arith) (omega (arith, l))), rows_rising ps (λ i j d a b. all (suc i) (suc j) d (omega (arith, a)) (omega (arith, b))))

has_row : (p : Pair) (ps : List Pair) → Contains ps p → Has (key_value p) (map key_value ps)
has_row p [] c = absurd (contains_none p c)
has_row p (q ∷ qs) c = ⊎_elim (λ e. inl (subst (λ (x : Pair). key_value q ≡ key_value x) e refl)) (λ d. inr (has_row p qs d)) (contains_cases q p qs c)

row_has : (kv : KeyValue) (ps : List Pair) → Has kv (map key_value ps) → (p : Pair) × Contains ps p × (key_value p ≡ kv)
row_has kv [] h = absurd h
row_has kv (q ∷ qs) (inl e) = (q, contains_first q qs, e)
row_has kv (q ∷ qs) (inr h) =
    let r : (p : Pair) × Contains qs p × (key_value p ≡ kv) = row_has kv qs h in
    (r.0, contains_later q r.0 qs r.1, r.2)

module _ (setup : Setup) (sound : IsSoundSetup setup) (h : History) (keeps : KeepsReads setup h) (d : PlainDatabase) where
  -- what a database holds in a span that was served are the rows
  agrees_on : (s : ServedRead) (f : Fed) → WasServed setup s h → IsHeldBelow setup h s.range s.read.at d → IsFedBy s f → AgreesOn (layout_of setup h) d f
  agrees_on s f was held by =
      let pairs : List KeyValue = range_pairs (layout_of setup h) d s.range in
      let row : (key value : List ℕ) → InSpan s.read.span key → IsRow s.entries s.read key value ↔ IsHeld setup h s.range s.read.at key value =
      λ key value inside. served_held setup sound h keeps s was key value inside in
      subst (λ (a : Ask). where_key bytes_cmp (is_in a.span) (range_pairs (layout_of setup h) d a.range) ≡ map key_value f.rows) (sym by.ask_is)
      (same_list (where_key bytes_cmp (is_in s.read.span) pairs) (map key_value f.rows)
      (still_rising (is_in s.read.span) pairs (rising_by_test pairs (range_sorted (layout_of setup h) d s.range))) (rows_rising f.rows by.rows_are.rising)
      (λ p has.
      let kept : Has p pairs × (is_in s.read.span p.0 ≡ _) = kept_has (is_in s.read.span) pairs p has in
      let inside : InSpan s.read.span p.0 = (is_in_decides s.read.span p.0).0 kept.1 in
      has_row (record { key = p.0; value = p.1 }) f.rows
      ((by.rows_are.each (record { key = p.0; value = p.1 })).1 (inside, (row p.0 p.1 inside).1 ((held p.0 p.1).0 (of_has p pairs kept.0)))))
      (λ p has.
      let r : (q : Pair) × Contains f.rows q × (key_value q ≡ p) = row_has p f.rows has in
      let is : InSpan s.read.span r.0.key × IsRow s.entries s.read r.0.key r.0.value = (by.rows_are.each r.0).0 r.1 in
      subst (λ (x : KeyValue). Has x (where_key bytes_cmp (is_in s.read.span) pairs)) r.2
      (has_kept (is_in s.read.span) pairs (key_value r.0) (has_of (key_value r.0) pairs ((held r.0.key r.0.value).1 ((row r.0.key r.0.value is.0).0 is.1))) ((is_in_decides s.read.span r.0.key).1 is.0))))

  one : {X : Type 0} (P : X → Type 0) (x : X) → P x → All P (x ∷ [])
  one P x p zero e l = p
  one P x p (suc k) e l = absurd (omega (arith, l))

  none : {X : Type 0} (P : X → Type 0) → All P []
  none P k e l = absurd (omega (arith, l))

  -- it agrees with all that was fed
  pub fed_agrees : (served : List ServedRead) (fed : List Fed) → ((s : ServedRead) → Contains served s → WasServed setup s h × IsHeldBelow setup h s.range s.read.at d) → AreFed served fed
      → Agrees (layout_of setup h) d fed
  fed_agrees [] fed each are = subst (λ (fs : List Fed). All (AgreesOn (layout_of setup h) d) fs) (sym are) (none (AgreesOn (layout_of setup h) d))
  fed_agrees (s ∷ older) fed each are =
      let mine : WasServed setup s h × IsHeldBelow setup h s.range s.read.at d = each s (contains_first s older) in
      subst (λ (fs : List Fed). All (AgreesOn (layout_of setup h) d) fs) (sym are.2)
      (All-append (AgreesOn (layout_of setup h) d) are.0 (are.1 ∷ [])
      (fed_agrees older are.0 (λ x c. each x (contains_later s x older c)) are.4)
      (one (AgreesOn (layout_of setup h) d) are.1 (agrees_on s are.1 mine.0 mine.1 are.3)))
