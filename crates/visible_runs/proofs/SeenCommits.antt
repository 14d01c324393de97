use Rattle.std.proofs.Common.{◌≡◌, ◌≢◌, ℕ, ◌<◌, ◌≤◌, List, length, inl, inr, ⊎_elim, refl, sym, ap, ◌∙◌, subst, arith}
use Rattle.std.specs.Prelude.{Option, Some}
use Rattle.closed_ts.specs.Targets.{at_wall}
use Rattle.journal.specs.declared.entries.How.TheVariants as how
use Rattle.journal.specs.declared.entries.How.{How}
use Rattle.mr_base.specs.Spans.{InSpan}
use Rattle.mr_base.specs.Timestamps.{IsBelow}
use Rattle.mr_base.specs.declared.ids.AttemptId.{AttemptId}
use Rattle.mr_base.specs.declared.ids.NodeId.{NodeId}
use Rattle.mr_base.specs.declared.ids.RangeId.{RangeId}
use Rattle.mr_base.specs.declared.messages.Fate.TheVariants as fates
use Rattle.mr_base.specs.declared.messages.Fate.{Fate}
use Rattle.mr_base.specs.declared.messages.Known.{Known}
use Rattle.mr_base.specs.declared.spans.Span.{Span}
use Rattle.mr_base.specs.declared.timestamps.Ts.{Ts}
use Rattle.mvcc_range.specs.Answer.{Read, Sees, TellsFate}
use Rattle.range_log.specs.Facts.{HasIntent, HasVersion, IsInPlaceOf, Laid, Version, closed_of}
use Rattle.range_log.specs.declared.entries.Entry.{Entry}
use Rattle.range_log.specs.declared.entries.TxnState.TheVariants as states
use Rattle.run_laws.specs.Beginnings.{IsSoundSetup}
use Rattle.run_laws.specs.Served.{IsServed}
use Rattle.run_words.specs.History.{History}
use Rattle.run_words.specs.Logs.{applied, log_of, prefix}
use Rattle.run_words.specs.Puts.{record_of}
use Rattle.run_words.specs.Serving.{MayServe}
use Rattle.run_words.specs.Setup.{Setup}
use Rattle.held_reads.specs.KeepsReads.{KeepsReads}
use Rattle.held_reads.proofs.AppliedFacts.{applied_within}
use Rattle.held_reads.proofs.CompleteFacts.{IsPassed, complete}
use Rattle.held_reads.proofs.FateLemmas.{tells_or_not}
use Rattle.held_reads.proofs.IntentLemmas.{no_version}
use Rattle.held_reads.proofs.Licenses.{AreLicensed, AreOwned, older_licensed}
use Rattle.held_reads.proofs.LogFacts.{licensed}
use Rattle.held_reads.proofs.LogWords.{PutAfter, PutIn, first_length, first_suffix, put_split}
use Rattle.held_reads.proofs.RecordCommits.{are_owned}
use Rattle.held_reads.proofs.Standing.{Standing, stands, version_of}
use Rattle.held_reads.proofs.VersionLemmas.{above_closed}

committed_same : {c d : Ts} → Some (states.Committed c) ≡ Some (states.Committed d) → c ≡ d
committed_same e = cc

aborted_apart : {b : AttemptId} {d : Ts} → Some (states.Aborted b) ≡ Some (states.Committed d) → ⊥
aborted_apart e = cc

wall_above : (limit : ℕ) (a b : Ts) → limit < a.wall → IsBelow a b → limit < b.wall
wall_above limit a b p q = grind (arith, p, q)

wall_from : (limit wall : ℕ) (p : Ts) → limit < wall → ¬ IsBelow p (at_wall wall) → limit < p.wall
wall_from limit wall p q n = grind (arith, q, n)

wall_under : (limit : ℕ) (p c : Ts) → ¬ IsBelow c p → c.wall ≤ limit → p.wall ≤ limit
wall_under limit p c n q = grind (arith, n, q)

not_both : (limit wall : ℕ) → limit < wall → wall ≤ limit → ⊥
not_both limit wall p q = omega (arith, p, q)

module _ (setup : Setup) (sound : IsSoundSetup setup) (h : History) (keeps : KeepsReads setup h) (n : NodeId) (j : RangeId) where
  abbrev l : List Entry
  l = log_of setup h j

  abbrev o : List Entry
  o = prefix setup h n j

  -- a put that a read with a limit didn't look at is above the limit
  outside_limit : (by : How) (at : Ts) (limit : ℕ) → MayServe setup h by n j at (Some limit) → (w : AttemptId) (p : Ts) (key : List ℕ) → PutAfter o w p key l → limit < p.wall
  outside_limit how.Closure at limit may w p key after =
      wall_above limit (closed_of o) p may.1 (above_closed (record_of h) o l w p key (licensed setup sound h keeps j) after)
  outside_limit how.Lease at limit (lease, is, named) w p key after =
      let count : length o ≡ applied setup h n j = first_length (applied setup h n j) l (applied_within setup h keeps n j) in
      let passed : IsPassed (at_wall lease.expiration) o l =
      complete setup sound h keeps n j o lease (first_suffix (applied setup h n j) l) (omega (arith, count)) is named.0 named.1 in
      wall_from limit lease.expiration p named.3 (passed.puts w p key after)

  module _ (a : AttemptId) (span : Span) (at : Ts) (limit count : ℕ) (by : How) (known : List Known) (served : IsServed setup h a n j span at (Some limit) count by known)
      (w : AttemptId) (c p : Ts) (key : List ℕ) (v : Option (List ℕ)) (r : record_of h w ≡ Some (states.Committed c)) (put : PutIn w p key v l) (low : ¬ IsBelow c p) (within : c.wall ≤ limit)
      (other : w ≢ a) (inside : InSpan span key) (told : (f : Fate) → TellsFate known w f → f ≡ fates.Committed c) where
    abbrev read : Read
    read = record { attempt = a; span = span; at = at; limit = Some limit; known = known }

    own : AreOwned (record_of h)
    own = are_owned setup h keeps

    part : AreLicensed (record_of h) o
    part = older_licensed (record_of h) o l (first_suffix (applied setup h n j) l) (licensed setup sound h keeps j)

    module _ (i : Laid) (int : HasIntent key i o) (ia : i.attempt ≡ w) (iv : i.value ≡ v) (it : i.ts ≡ p) where
      other_intent : i.attempt ≢ a
      other_intent e = other (sym ia ∙ e)

      i_under : i.ts.wall ≤ limit
      i_under = subst (λ (t : Ts). t.wall ≤ limit) (sym it) (wall_under limit p c low within)

      i_record : record_of h i.attempt ≡ Some (states.Committed c)
      i_record = ap (record_of h) ia ∙ r

      alone : (u : Version) → HasVersion u o → ¬ IsInPlaceOf u (version_of key c v)
      alone u ver q =
          no_version (record_of h) own o part u ver i (subst (λ (x : List ℕ). HasIntent x i o) (sym q.0) int) (i_record ∙ ap (λ (t : Ts). Some (states.Committed t)) (sym q.1))

      told_seen : (f : Fate) → TellsFate known i.attempt f → Sees o read (version_of key c v)
      told_seen f t =
          let is : f ≡ fates.Committed c = told f (subst (λ (b : AttemptId). TellsFate known b f) ia t) in
          inr (i, int, other_intent, inr (limit, refl, i_under), subst (λ (g : Fate). TellsFate known i.attempt g) is t, (iv, alone))

      intent_seen : Sees o read (version_of key c v)
      intent_seen =
          ⊎_elim (λ (q : (f : Fate) × TellsFate known i.attempt f). told_seen q.0 q.1)
          (λ none. absurd ((served.rows key inside).0 i (int, other_intent, inr (limit, refl, i_under), λ f t. absurd (none f t))))
          (tells_or_not known i.attempt)

    standing_seen : Standing (record_of h) o w p key v → Sees o read (version_of key c v)
    standing_seen (inl (i, int, ia, iv, it)) = intent_seen i int ia iv it
    standing_seen (inr (inl (d, rd, ver))) = inl (subst (λ (t : Ts). HasVersion (version_of key t v) o) (committed_same (sym rd ∙ r)) ver)
    standing_seen (inr (inr (b, ra))) = absurd (aborted_apart (sym ra ∙ r))

    put_seen : Sees o read (version_of key c v)
    put_seen =
        ⊎_elim
        (λ after. absurd (not_both limit p.wall (outside_limit by at limit served.serves w p key after) (wall_under limit p c low within)))
        (λ q. standing_seen (stands (record_of h) own o part w p key v q))
        (put_split o l w p key v (first_suffix (applied setup h n j) l) put)

    -- a commit above a read and within its limit would have been uncertain
    pub not_above : ¬ IsBelow at c
    not_above above = (served.rows key inside).1 c (version_of key c v, put_seen, refl, refl, above, limit, refl, within)
