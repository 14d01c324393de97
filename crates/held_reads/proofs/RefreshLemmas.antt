use Rattle.std.proofs.Common.{◌≡◌, ℕ, List, inl, inr, refl, sym, ap, ◌∙◌, subst}
use Rattle.std.specs.Prelude.{◌⊎◌, ◌↔◌, Option, Some, None}
use Rattle.std.specs.List.{Contains}
use Rattle.mr_base.specs.Spans.{InSpan}
use Rattle.mr_base.specs.Timestamps.{IsBelow}
use Rattle.mr_base.specs.declared.ids.AttemptId.{AttemptId}
use Rattle.mr_base.specs.declared.ids.RangeId.{RangeId}
use Rattle.mr_base.specs.declared.spans.Span.{Span}
use Rattle.mr_base.specs.declared.timestamps.Ts.{Ts}
use Rattle.mvcc_range.specs.Answer.{IsRow, Sees}
use Rattle.mvcc_range.specs.RefreshAnswer.{IsNewerWrite}
use Rattle.range_log.specs.declared.entries.Entry.{Entry}
use Rattle.range_log.specs.declared.entries.Entry.TheVariants as log
use Rattle.held_reads.proofs.CommitFacts.{IsHigh, IsUnder, commit_high, own_commit, served_under}
use Rattle.held_reads.proofs.ContainsLemmas.{load_in}
use Rattle.held_reads.proofs.HeldLemmas.{served_held, written_seen}
use Rattle.held_reads.proofs.Licenses.{attempt_by_number}
use Rattle.held_reads.proofs.LogFacts.{licensed}
use Rattle.held_reads.proofs.Standing.{version_of}
use Rattle.held_reads.proofs.TsLemmas.{below_trans, total}
use Rattle.held_reads.proofs.VersionLemmas.{load_unowned, unowned_apart}
use Rattle.held_reads.specs.KeepsReads.{KeepsReads}
use Rattle.run_laws.specs.Beginnings.{IsSoundSetup}
use Rattle.run_laws.specs.Held.{IsHeld, IsWritten}
use Rattle.run_laws.specs.Laws.{refresh_of}
use Rattle.run_words.specs.Attempts.{attempt_of}
use Rattle.run_words.specs.History.{History}
use Rattle.run_words.specs.Logs.{log_of}
use Rattle.run_words.specs.Puts.{CommitMade, commit, puts, record_of}
use Rattle.run_words.specs.Relations.{WasServed}
use Rattle.run_words.specs.Serving.{ServedRead}
use Rattle.run_words.specs.Setup.{Setup}

module _ (setup : Setup) (sound : IsSoundSetup setup) (h : History) (keeps : KeepsReads setup h) (s again : ServedRead) (was : WasServed setup s h) (was_again : WasServed setup again h)
    (same_attempt : again.read.attempt ≡ s.read.attempt) (same_range : again.range ≡ s.range) (same_span : again.read.span ≡ s.read.span) (later : IsBelow s.read.at again.read.at)
    (nothing : (ts : Ts) → ¬ IsNewerWrite again.entries (refresh_of s again) ts) where
  under : IsUnder (attempt_of h s.read.attempt) (puts h s.read.attempt) s.read.attempt s.read.at
  under = served_under setup h keeps s was

  abbrev l : List Entry
  l = log_of setup h again.range

  -- nothing is written at the timestamp of the first read
  not_loaded : (key w : List ℕ) → Contains l (log.Load s.read.at key w) → ⊥
  not_loaded key w load =
      unowned_apart s.read.at s.read.attempt (load_unowned (record_of h) l s.read.at key w (licensed setup sound h keeps again.range) (load_in l s.read.at key w load)) under.owned under.positive

  not_committed : (a : AttemptId) (made : CommitMade) → commit h a ≡ Some made → made.ts ≡ s.read.at → ⊥
  not_committed a made c t =
      let high : IsHigh (attempt_of h a) (puts h a) a made.ts = commit_high setup h keeps a made c in
      let mine : a ≡ again.read.attempt = attempt_by_number a s.read.attempt (sym high.owned ∙ ap (λ (x : Ts). x.owner) t ∙ under.owned) ∙ sym same_attempt in
      own_commit setup h keeps again was_again made (subst (λ (b : AttemptId). commit h b ≡ Some made) mine c)
      (subst (λ (x : Ts). IsBelow x again.read.at) (sym t) later)

  not_at : (key : List ℕ) (ts : Ts) (v : Option (List ℕ)) → ts ≡ s.read.at → IsWritten setup h again.range key ts v → ⊥
  not_at key ts v e (inl (x, load, q)) = not_loaded key x (subst (λ (t : Ts). Contains l (log.Load t key x)) e load)
  not_at key ts v e (inr (a, made, put, c, t, among, at_range, at_key, at_value)) = not_committed a made c (t ∙ e)

  module _ (key : List ℕ) (inside : InSpan s.read.span key) where
    inside_again : InSpan again.read.span key
    inside_again = subst (λ (x : Span). InSpan x key) (sym same_span) inside

    -- nor between the two
    not_between : (ts : Ts) (v : Option (List ℕ)) → IsWritten setup h again.range key ts v → IsBelow s.read.at ts → IsBelow ts again.read.at → ⊥
    not_between ts v w after below =
        nothing ts (
          version_of key ts v,
          subst (λ (a : AttemptId). Sees again.entries (record { attempt = a; span = s.read.span; at = again.read.at; limit = None; known = again.read.known }) (version_of key ts v)) same_attempt
              (written_seen setup sound h keeps again was_again key inside_again ts v below None w),
          inside,
          refl,
          after,
          below,
        )

    before_by : (ts : Ts) (v : Option (List ℕ)) → IsWritten setup h again.range key ts v → IsBelow ts again.read.at → IsBelow ts s.read.at ⊎ ((ts ≡ s.read.at) ⊎ IsBelow s.read.at ts)
        → IsBelow ts s.read.at
    before_by ts v w below (inl q) = q
    before_by ts v w below (inr (inl q)) = absurd (not_at key ts v q w)
    before_by ts v w below (inr (inr q)) = absurd (not_between ts v w q below)

    before : (ts : Ts) (v : Option (List ℕ)) → IsWritten setup h again.range key ts v → IsBelow ts again.read.at → IsBelow ts s.read.at
    before ts v w below = before_by ts v w below (total ts s.read.at)

    held_back : (value : List ℕ) → IsHeld setup h again.range again.read.at key value → IsHeld setup h again.range s.read.at key value
    held_back value held =
        record {
          ts = held.ts;
          written = held.written;
          is_below = before held.ts (Some value) held.written held.is_below;
          last = λ other v w below late. held.last other v w (below_trans other s.read.at again.read.at below later) late;
        }

    held_on : (value : List ℕ) → IsHeld setup h again.range s.read.at key value → IsHeld setup h again.range again.read.at key value
    held_on value held =
        record {
          ts = held.ts;
          written = held.written;
          is_below = below_trans held.ts s.read.at again.read.at held.is_below later;
          last = λ other v w below late. held.last other v w (before other v w below) late;
        }

    -- so the rows are the same
    pub rows_stay : (value : List ℕ) → IsRow again.entries again.read key value ↔ IsRow s.entries s.read key value
    rows_stay value =
        let first : IsRow s.entries s.read key value ↔ IsHeld setup h s.range s.read.at key value = served_held setup sound h keeps s was key value inside in
        let second : IsRow again.entries again.read key value ↔ IsHeld setup h again.range again.read.at key value = served_held setup sound h keeps again was_again key value inside_again in (
          (λ r. first.1 (subst (λ (j : RangeId). IsHeld setup h j s.read.at key value) same_range (held_back value (second.0 r)))),
          (λ r. second.1 (held_on value (subst (λ (j : RangeId). IsHeld setup h j s.read.at key value) (sym same_range) (first.0 r)))),
        )
