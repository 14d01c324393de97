use Rattle.std.proofs.Common.{◌≡◌, ◌≢◌, ℕ, List, inl, inr, ⊎_elim, refl, sym, ap, ◌∙◌, subst}
use Rattle.std.specs.Prelude.{◌⊎◌, ◌↔◌, Option, Some}
use Rattle.std.specs.List.{Contains}
use Rattle.mr_base.specs.Spans.{InSpan}
use Rattle.mr_base.specs.Timestamps.{IsBelow}
use Rattle.mr_base.specs.declared.ids.AttemptId.{AttemptId}
use Rattle.mr_base.specs.declared.messages.Fate.{Fate}
use Rattle.mr_base.specs.declared.messages.Fate.TheVariants as fates
use Rattle.mr_base.specs.declared.timestamps.Ts.{Ts}
use Rattle.mvcc_range.specs.Answer.{IsRow, Read, Sees, Settles, TellsFate}
use Rattle.range_log.specs.Facts.{HasIntent, HasVersion, IsInPlaceOf, Laid, Version}
use Rattle.range_log.specs.declared.entries.Entry.{Entry}
use Rattle.range_log.specs.declared.entries.TxnState.TheVariants as states
use Rattle.range_log.specs.declared.entries.TxnState.{TxnState}
use Rattle.held_reads.proofs.CommitFacts.{IsHigh, commit_high, own_commit}
use Rattle.held_reads.proofs.ContainsLemmas.{load_among, load_in, put_in}
use Rattle.held_reads.proofs.FateLemmas.{tells_one, tells_or_not}
use Rattle.held_reads.proofs.IntentLemmas.{no_version}
use Rattle.held_reads.proofs.Licenses.{AreLicensed, AreOwned, intent_put, older_licensed, same_attempt}
use Rattle.held_reads.proofs.LogFacts.{IsAmong, licensed, loads_begin, put_among}
use Rattle.held_reads.proofs.LogWords.{LoadIn, PutIn, load_later, put_later, put_split}
use Rattle.held_reads.proofs.PutFacts.{greatest_above_put}
use Rattle.held_reads.proofs.RecordCommits.{are_owned, commit_recorded, recorded_commit}
use Rattle.held_reads.proofs.RecordFacts.{StillHolds}
use Rattle.held_reads.proofs.ServeFacts.{IsServedSo, served_so}
use Rattle.held_reads.proofs.Standing.{Standing, stands, version_of}
use Rattle.held_reads.proofs.TsLemmas.{below_le, below_trans}
use Rattle.held_reads.proofs.VersionLemmas.{Made, loads_stand, versions}
use Rattle.held_reads.specs.KeepsReads.{KeepsReads}
use Rattle.run_laws.specs.Beginnings.{IsSoundSetup}
use Rattle.run_laws.specs.Held.{IsHeld, IsWritten}
use Rattle.run_words.proofs.AttemptLemmas.{put_was_made}
use Rattle.run_words.proofs.LogLemmas.{put_in_log}
use Rattle.run_words.specs.Attempts.{attempt_of}
use Rattle.run_words.specs.History.{History}
use Rattle.run_words.specs.Logs.{log_of}
use Rattle.run_words.specs.Puts.{CommitMade, PutMade, commit, greatest_with, puts, record_of}
use Rattle.run_words.specs.Relations.{WasServed}
use Rattle.run_words.specs.Serving.{ServedRead}
use Rattle.run_words.specs.Setup.{Setup}

committed_same : {c d : Ts} → Some (states.Committed c) ≡ Some (states.Committed d) → c ≡ d
committed_same e = cc

aborted_apart : {b : AttemptId} {d : Ts} → Some (states.Aborted b) ≡ Some (states.Committed d) → ⊥
aborted_apart e = cc

-- the fate of a commit is that commit
holds_committed : (r : Option TxnState) (c : Ts) → StillHolds (fates.Committed c) r → r ≡ Some (states.Committed c)
holds_committed (Some (states.Committed d)) c h = ap (λ (t : Ts). Some (states.Committed t)) (sym h)
holds_committed _ c h = absurd h

module _ (setup : Setup) (sound : IsSoundSetup setup) (h : History) (keeps : KeepsReads setup h) (s : ServedRead) (was : WasServed setup s h) where
  abbrev l : List Entry
  l = log_of setup h s.range

  so : IsServedSo l (record_of h) (setup.beginning s.range) s.entries s.read
  so = served_so setup sound h keeps s was

  own : AreOwned (record_of h)
  own = are_owned setup h keeps

  seen_licensed : AreLicensed (record_of h) s.entries
  seen_licensed = older_licensed (record_of h) s.entries l so.part (licensed setup sound h keeps s.range)

  -- a committed attempt's put is written
  put_written : (a : AttemptId) (p c : Ts) (key : List ℕ) (v : Option (List ℕ)) → record_of h a ≡ Some (states.Committed c) → PutIn a p key v s.entries → IsWritten setup h s.range key c v
  put_written a p c key v r w =
      let f : (made : CommitMade) × (commit h a ≡ Some made) × (made.ts ≡ c) = recorded_commit h a c r in
      let g : IsAmong (puts h a) s.range p key v = put_among setup sound h s.range a p key v (put_later s.entries l a p key v so.part w) in
      inr (a, f.0, g.put, f.1, f.2, g.among, g.range_is, g.key_is, g.value_is)

  version_written : (v : Version) → Made (record_of h) s.entries v → IsWritten setup h s.range v.key v.ts v.value
  version_written v (inl (a, p, r, w)) = put_written a p v.ts v.key v.value r w
  version_written v (inr (x, load, e)) = inl (x, load_among l v.ts v.key x (load_later s.entries l v.ts v.key x so.part load), e)

  -- what a read sees is written
  pub seen_written : (v : Version) → Sees s.entries s.read v → IsWritten setup h s.range v.key v.ts v.value
  seen_written v (inl ver) = version_written v (versions (record_of h) s.entries seen_licensed v ver)
  seen_written v (inr i) =
      put_written i.0.attempt i.0.ts v.ts v.key v.value (holds_committed (record_of h i.0.attempt) v.ts (so.told i.0.attempt (fates.Committed v.ts) i.4))
      (let value : i.0.value ≡ v.value = search (i.5) in
      subst (λ (x : Option (List ℕ)). PutIn i.0.attempt i.0.ts v.key x s.entries) value (intent_put s.entries v.key i.0 i.1))

  -- the read with another limit
  abbrev limited : Option ℕ → Read
  limited limit = record { attempt = s.read.attempt; span = s.read.span; at = s.read.at; limit = limit; known = s.read.known }

  -- an intent of a committed attempt
  module _ (key : List ℕ) (inside : InSpan s.read.span key) (ts : Ts) (v : Option (List ℕ)) (below : IsBelow ts s.read.at) (limit : Option ℕ) (a : AttemptId) (other : a ≢ s.read.attempt)
      (r : record_of h a ≡ Some (states.Committed ts)) (i : Laid) (int : HasIntent key i s.entries) (ia : i.attempt ≡ a) (iv : i.value ≡ v) (low : ¬ IsBelow ts i.ts) where
    looked : ¬ IsBelow s.read.at i.ts
    looked late = low (below_trans ts s.read.at i.ts below late)

    other_intent : i.attempt ≢ s.read.attempt
    other_intent e = other (sym ia ∙ e)

    holds : (f : Fate) → TellsFate s.read.known i.attempt f → StillHolds f (Some (states.Committed ts))
    holds f t = subst (λ (x : Option TxnState). StillHolds f x) r (subst (λ (b : AttemptId). StillHolds f (record_of h b)) ia (so.told i.attempt f t))

    blind : ((f : Fate) → TellsFate s.read.known i.attempt f → ¬ Settles s.read.at f) → ⊥
    blind f = (so.rows key inside).0 i (int, other_intent, inl looked, f)

    unsettled : (f : Fate) (g : Fate) → f ≡ g → ¬ Settles s.read.at f → ¬ Settles s.read.at g
    unsettled f g e n = subst (λ (x : Fate). ¬ Settles s.read.at x) e n

    -- no version stands in its place
    alone : (w : Version) → HasVersion w s.entries → ¬ IsInPlaceOf w (version_of key ts v)
    alone w ver q =
        no_version (record_of h) own s.entries seen_licensed w ver i (subst (λ (x : List ℕ). HasIntent x i s.entries) (sym q.0) int)
        (subst (λ (b : AttemptId). record_of h b ≡ Some (states.Committed w.ts)) (sym ia) (r ∙ ap (λ (t : Ts). Some (states.Committed t)) (sym q.1)))

    pub told_sees : (f : Fate) → TellsFate s.read.known i.attempt f → StillHolds f (Some (states.Committed ts)) → Sees s.entries (limited limit) (version_of key ts v)
    told_sees (fates.Committed d) t same = inr (i, int, other_intent, inl looked, subst (λ (x : Ts). TellsFate s.read.known i.attempt (fates.Committed x)) same t, search (iv, alone))
    told_sees fates.Aborted t same = absurd same
    told_sees (fates.Pushed y) t above =
        absurd (blind (λ g u. unsettled (fates.Pushed y) g (tells_one s.read.known i.attempt (fates.Pushed y) g t u) (λ n. n (below_trans y ts s.read.at above below))))

    pub intent_seen : Sees s.entries (limited limit) (version_of key ts v)
    intent_seen =
        ⊎_elim (λ (q : (f : Fate) × TellsFate s.read.known i.attempt f). told_sees q.0 q.1 (holds q.0 q.1)) (λ none. absurd (blind (λ f t. absurd (none f t))))
        (tells_or_not s.read.known i.attempt)

  -- a committed put in what the read looked at
  standing_seen : (key : List ℕ) → InSpan s.read.span key → (ts p : Ts) (v : Option (List ℕ)) → IsBelow ts s.read.at → (limit : Option ℕ) (a : AttemptId) → a ≢ s.read.attempt
      → record_of h a ≡ Some (states.Committed ts) → ¬ IsBelow ts p → Standing (record_of h) s.entries a p key v → Sees s.entries (limited limit) (version_of key ts v)
  standing_seen key inside ts p v below limit a other r low (inl (i, int, ia, iv, it)) =
      intent_seen key inside ts v below limit a other r i int ia iv (subst (λ (t : Ts). ¬ IsBelow ts t) (sym it) low)
  standing_seen key inside ts p v below limit a other r low (inr (inl (c, rc, ver))) =
      inl (subst (λ (t : Ts). HasVersion (version_of key t v) s.entries) (committed_same (sym rc ∙ r)) ver)
  standing_seen key inside ts p v below limit a other r low (inr (inr (by, ra))) = absurd (aborted_apart (sym ra ∙ r))

  -- another's committed put below the read
  put_seen : (key : List ℕ) → InSpan s.read.span key → (ts p : Ts) (v : Option (List ℕ)) → IsBelow ts s.read.at → (limit : Option ℕ) (a : AttemptId) → a ≢ s.read.attempt
      → record_of h a ≡ Some (states.Committed ts) → ¬ IsBelow ts p → PutIn a p key v l → Sees s.entries (limited limit) (version_of key ts v)
  put_seen key inside ts p v below limit a other r low w =
      ⊎_elim
      (λ after. absurd (low (below_trans ts s.read.at p below (so.outside a p key after other inside))))
      (λ q. standing_seen key inside ts p v below limit a other r low (stands (record_of h) own s.entries seen_licensed a p key v q))
      (put_split s.entries l a p key v so.part w)

  committed_seen : (key : List ℕ) → InSpan s.read.span key → (ts : Ts) (v : Option (List ℕ)) → IsBelow ts s.read.at → (limit : Option ℕ) (a : AttemptId) (made : CommitMade) (put : PutMade)
      → commit h a ≡ Some made → made.ts ≡ ts → Contains (puts h a) put → put.range ≡ s.range → put.key ≡ key → put.value ≡ v → (a ≡ s.read.attempt) ⊎ (a ≢ s.read.attempt)
      → Sees s.entries (limited limit) (version_of key ts v)
  committed_seen key inside ts v below limit a made put c t among at_range at_key at_value (inl e) =
      absurd (own_commit setup h keeps s was made (subst (λ (b : AttemptId). commit h b ≡ Some made) e c) (subst (λ (x : Ts). IsBelow x s.read.at) (sym t) below))
  committed_seen key inside ts v below limit a made put c t among at_range at_key at_value (inr other) =
      let high : IsHigh (attempt_of h a) (puts h a) a made.ts = commit_high setup h keeps a made c in
      let low : ¬ IsBelow made.ts put.ts =
      λ q. high.high (below_le made.ts put.ts (greatest_with high.attempt.read_at (puts h a)) q (greatest_above_put high.attempt.read_at (puts h a) put among)) in
      let w : PutIn a put.ts put.key put.value (log_of setup h put.range) =
      put_in (log_of setup h put.range) a put.start put.anchor put.ts put.key put.value (put_in_log setup h a put (put_was_made h a put among)) in
      let here : PutIn a put.ts key v l =
      subst (λ (x : Option (List ℕ)). PutIn a put.ts key x l) at_value
      (subst (λ (x : List ℕ). PutIn a put.ts x put.value l) at_key (subst (λ (x : _). PutIn a put.ts put.key put.value (log_of setup h x)) at_range w)) in
      put_seen key inside ts put.ts v below limit a other (commit_recorded setup h keeps a made c ∙ ap (λ (x : Ts). Some (states.Committed x)) t)
      (subst (λ (x : Ts). ¬ IsBelow x put.ts) t low) here

  -- what is written below a read is seen, whatever its limit
  pub written_seen : (key : List ℕ) → InSpan s.read.span key → (ts : Ts) (v : Option (List ℕ)) → IsBelow ts s.read.at → (limit : Option ℕ) → IsWritten setup h s.range key ts v
      → Sees s.entries (limited limit) (version_of key ts v)
  written_seen key inside ts v below limit (inl (x, load, e)) =
      let first : LoadIn ts key x (setup.beginning s.range) = loads_begin setup h keeps s.range ts key x (load_in l ts key x load) in
      inl (subst (λ (y : Option (List ℕ)). HasVersion (version_of key ts y) s.entries) (sym e)
      (loads_stand (record_of h) own s.entries seen_licensed ts key x (load_later (setup.beginning s.range) s.entries ts key x so.begins first)))
  written_seen key inside ts v below limit (inr (a, made, put, c, t, among, at_range, at_key, at_value)) =
      committed_seen key inside ts v below limit a made put c t among at_range at_key at_value (same_attempt a s.read.attempt)

  row_held : (key value : List ℕ) → InSpan s.read.span key → IsRow s.entries s.read key value → IsHeld setup h s.range s.read.at key value
  row_held key value inside (ts, n) =
      record {
        ts = ts;
        written = seen_written (version_of key ts (Some value)) n.seen;
        is_below = n.below;
        last = λ other v w below late. n.newest (version_of key other v) (written_seen key inside other v below s.read.limit w) refl below late;
      }

  held_row : (key value : List ℕ) → InSpan s.read.span key → IsHeld setup h s.range s.read.at key value → IsRow s.entries s.read key value
  held_row key value inside held = (
    held.ts,
    record {
      seen = written_seen key inside held.ts (Some value) held.is_below s.read.limit held.written;
      below = held.is_below;
      newest = λ v sees same below late.
          held.last v.ts v.value (subst (λ (k : List ℕ). IsWritten setup h s.range k v.ts v.value) same (seen_written v sees)) below late;
    },
  )

  -- what was served is held
  pub served_held : (key value : List ℕ) → InSpan s.read.span key → IsRow s.entries s.read key value ↔ IsHeld setup h s.range s.read.at key value
  served_held key value inside = (λ r. row_held key value inside r, λ r. held_row key value inside r)
