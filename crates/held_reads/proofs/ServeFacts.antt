use Rattle.std.proofs.Common.{◌≡◌, ◌≢◌, ℕ, suc, ◌≤◌, Bool, true, false, cond, List, [], ◌∷◌, length, inl, inr, ⊎_elim, refl, sym, ◌∙◌, subst, arith}
use Rattle.std.specs.Prelude.{◌⊎◌, ◌==◌, All, Option}
use Rattle.closed_ts.specs.Targets.{at_wall}
use Rattle.journal.specs.declared.entries.How.TheVariants as how
use Rattle.journal.specs.declared.entries.How.{How}
use Rattle.journal.specs.declared.entries.JournalEntry.TheVariants as entry
use Rattle.mr_base.specs.Spans.{InSpan}
use Rattle.mr_base.specs.Timestamps.{IsBelow}
use Rattle.mr_base.specs.declared.ids.AttemptId.{AttemptId}
use Rattle.mr_base.specs.declared.ids.NodeId.{NodeId}
use Rattle.mr_base.specs.declared.ids.RangeId.{RangeId}
use Rattle.mr_base.specs.declared.messages.Fate.{Fate}
use Rattle.mr_base.specs.declared.messages.Known.{Known}
use Rattle.mr_base.specs.declared.spans.Span.{Span}
use Rattle.mr_base.specs.declared.timestamps.Ts.{Ts}
use Rattle.mvcc_range.specs.Answer.{GivesRows, Read, TellsFate}
use Rattle.range_log.specs.Facts.{closed_of, first_entries}
use Rattle.range_log.specs.declared.entries.Entry.{Entry}
use Rattle.range_log.specs.declared.entries.Entry.TheVariants as log
use Rattle.held_reads.proofs.AppliedFacts.{applied_begins, applied_within}
use Rattle.held_reads.proofs.Basics.{ranges_same}
use Rattle.held_reads.proofs.CompleteFacts.{IsPassed, complete}
use Rattle.held_reads.proofs.LogFacts.{IsNoPut, licensed, log_begins, log_grows}
use Rattle.held_reads.proofs.LogWords.{IsSuffix, PutAfter, first_length, first_suffix, suffix_in_suffix}
use Rattle.held_reads.proofs.RecordFacts.{StillHolds, fated_holds, still_holds}
use Rattle.held_reads.proofs.TsLemmas.{below_le, below_trans, below_wall}
use Rattle.held_reads.proofs.VersionLemmas.{above_closed}
use Rattle.held_reads.specs.KeepsReads.{IsKeptForReads, KeepsReads}
use Rattle.run_laws.specs.Beginnings.{IsSoundSetup}
use Rattle.run_laws.specs.Served.{IsLearned, IsServed}
use Rattle.run_words.specs.History.{History, Item, Made}
use Rattle.run_words.specs.Logs.{applied, log_of, prefix}
use Rattle.run_words.specs.Puts.{record_of}
use Rattle.run_words.specs.Relations.{WasServed}
use Rattle.run_words.specs.Serving.{MayServe, ServedRead}
use Rattle.run_words.specs.Setup.{Setup}

-- another's put behind what a read looked at is above the read
abbrev pub IsOutside : Read → List Entry → List Entry → Type 0
IsOutside read o l = (a : AttemptId) (p : Ts) (key : List ℕ) → PutAfter o a p key l → a ≢ read.attempt → InSpan read.span key → IsBelow read.at p

-- what is so of a read that was served, from then on
pub record IsServedSo (log : List Entry) (records : AttemptId → _) (beginning : List Entry) (entries : List Entry) (read : Read) : Type 0 where
  pub part : IsSuffix entries log
  pub begins : IsSuffix beginning entries
  pub rows : GivesRows entries read
  pub told : (o : AttemptId) (f : Fate) → TellsFate read.known o f → StillHolds f (records o)
  pub outside : IsOutside read entries log

-- what a list tells was learned
told_learned : (P : Known → Type 0) (ks : List Known) (o : AttemptId) (f : Fate) → All P ks → TellsFate ks o f → (k : Known) × P k × (k.attempt ≡ o) × (k.fate ≡ f)
told_learned P [] o f all t = absurd t
told_learned P (k ∷ ks) o f all (inl t) = told_learned P ks o f (λ i d h. all (suc i) d (omega (arith, h))) t
told_learned P (k ∷ ks) o f all (inr t) = (k, all 0 k (omega arith), t.0, t.1)

module _ (setup : Setup) (sound : IsSoundSetup setup) (h : History) (keeps : KeepsReads setup h) where
  learned_holds : (a : AttemptId) (ks : List Known) → All (IsLearned h a) ks → (o : AttemptId) (f : Fate) → TellsFate ks o f → StillHolds f (record_of h o)
  learned_holds a ks all o f t =
      let g : (k : Known) × IsLearned h a k × (k.attempt ≡ o) × (k.fate ≡ f) = told_learned (IsLearned h a) ks o f all t in
      subst (λ (x : AttemptId). StillHolds f (record_of h x)) g.2
      (subst (λ (y : Fate). StillHolds y (record_of h g.0.attempt)) g.3 (fated_holds setup h keeps g.1.0 g.0.attempt g.0.fate g.1.4))

  outside_by : (n : NodeId) (j : RangeId) (by : How) (a : AttemptId) (span : Span) (at : Ts) (limit : Option ℕ) (known : List Known) → MayServe setup h by n j at limit
      → IsOutside (record { attempt = a; span = span; at = at; limit = limit; known = known }) (prefix setup h n j) (log_of setup h j)
  outside_by n j how.Closure a span at limit known may b p key after other inside =
      below_trans at (closed_of (prefix setup h n j)) p may.0 (above_closed (record_of h) (prefix setup h n j) (log_of setup h j) b p key (licensed setup sound h keeps j) after)
  outside_by n j how.Lease a span at limit known (lease, is, named) b p key after other inside =
      let l : List Entry = log_of setup h j in
      let count : length (prefix setup h n j) ≡ applied setup h n j = first_length (applied setup h n j) l (applied_within setup h keeps n j) in
      let passed : IsPassed (at_wall lease.expiration) (prefix setup h n j) l =
      complete setup sound h keeps n j (prefix setup h n j) lease (first_suffix (applied setup h n j) l) (omega (arith, count)) is named.0 named.1 in
      below_le at (at_wall lease.expiration) p (below_wall at lease.expiration named.2) (passed.puts b p key after)

  begins_by : (n : NodeId) (j : RangeId) → IsSuffix (setup.beginning j) (prefix setup h n j)
  begins_by n j =
      let l : List Entry = log_of setup h j in
      let count : length (prefix setup h n j) ≡ applied setup h n j = first_length (applied setup h n j) l (applied_within setup h keeps n j) in
      let least : length (setup.beginning j) ≤ applied setup h n j = applied_begins setup h n j in
      suffix_in_suffix (setup.beginning j) (prefix setup h n j) l (log_begins setup h j) (first_suffix (applied setup h n j) l) (omega (arith, count, least))

  served_here : (a : AttemptId) (n : NodeId) (j : RangeId) (span : Span) (at : Ts) (limit : Option ℕ) (count : ℕ) (by : How) (known : List Known) → IsServed setup h a n j span at limit count by known
      → IsServedSo (log_of setup h j) (record_of h) (setup.beginning j) (first_entries count (log_of setup h j)) (record { attempt = a; span = span; at = at; limit = limit; known = known })
  served_here a n j span at limit count by known served =
      subst
      (λ (c : ℕ). IsServedSo (log_of setup h j) (record_of h) (setup.beginning j) (first_entries c (log_of setup h j)) (record { attempt = a; span = span; at = at; limit = limit; known = known }))
      (sym served.count_is)
      (record {
        part = first_suffix (applied setup h n j) (log_of setup h j);
        begins = begins_by n j;
        rows = served.rows;
        told = learned_holds a known served.fates;
        outside = outside_by n j by a span at limit known served.serves;
      })

-- a put that comes later
after_cases : (t : Bool) (range j : RangeId) (b : AttemptId) (start : Ts) (anchor : RangeId) (ts : Ts) (k : List ℕ) (x : Option (List ℕ)) (o l : List Entry) (a : AttemptId) (p : Ts) (key : List ℕ)
    → t ≡ (range.0 == j.0) → PutAfter o a p key (cond t (log.Put b start anchor ts k x ∷ l) l)
    → ((range ≡ j) × (b ≡ a) × (ts ≡ p) × (k ≡ key)) ⊎ PutAfter o a p key l
after_cases true range j b start anchor ts k x o l a p key e (inl w) = inl (ranges_same range j (sym e), w.0, w.1, w.2)
after_cases true range j b start anchor ts k x o l a p key e (inr w) = inr w
after_cases false range j b start anchor ts k x o l a p key e w = inr w

skip_after : (e : Entry) (t : Bool) (o l : List Entry) (a : AttemptId) (p : Ts) (key : List ℕ) → IsNoPut e → PutAfter o a p key (cond t (e ∷ l) l) → PutAfter o a p key l
skip_after e false o l a p key n w = w
skip_after (log.Put b start anchor ts k x) true o l a p key n w = absurd n
skip_after e true o l a p key n w = w

outside_goes : (setup : Setup) (x : Item) (h : History) → IsKeptForReads setup h x → (s : ServedRead) → WasServed setup s h → IsOutside s.read s.entries (log_of setup h s.range)
    → IsOutside s.read s.entries (log_of setup (x ∷ h) s.range)
outside_goes setup (Made (entry.Append range index (log.Put b start anchor ts k v))) h kept s w old a p key after other inside =
    ⊎_elim
    (λ (q : (range ≡ s.range) × (b ≡ a) × (ts ≡ p) × (k ≡ key)).
    subst (λ (t : Ts). IsBelow s.read.at t) q.2
    (kept.laid.reads s w (sym q.0) (λ e. other (sym q.1 ∙ sym e)) (subst (λ (y : List ℕ). InSpan s.read.span y) (sym q.3) inside)))
    (λ q. old a p key q other inside)
    (after_cases (range.0 == s.range.0) range s.range b start anchor ts k v s.entries (log_of setup h s.range) a p key refl after)
outside_goes setup (Made (entry.Append range index e)) h kept s w old a p key after other inside =
    old a p key (skip_after e (range.0 == s.range.0) s.entries (log_of setup h s.range) a p key tt after) other inside
outside_goes setup x h kept s w old a p key after other inside = old a p key after other inside

-- what is so of each read that was served
pub served_so : (setup : Setup) → IsSoundSetup setup → (h : History) → KeepsReads setup h → (s : ServedRead) → WasServed setup s h
    → IsServedSo (log_of setup h s.range) (record_of h) (setup.beginning s.range) s.entries s.read
served_so setup sound [] k s w = absurd w
served_so setup sound (Made (entry.Serve a node range span at limit count by known) ∷ h) k s (inl w) =
    subst (λ (y : ServedRead). IsServedSo (log_of setup h y.range) (record_of h) (setup.beginning y.range) y.entries y.read) (sym w)
    (served_here setup sound h k.1 a node range span at limit count by known k.0.served)
served_so setup sound (x ∷ h) k s (inl w) = absurd w
served_so setup sound (x ∷ h) k s (inr w) =
    let old : IsServedSo (log_of setup h s.range) (record_of h) (setup.beginning s.range) s.entries s.read = served_so setup sound h k.1 s w in
    record {
      part = log_grows setup x h s.range s.entries old.part;
      begins = old.begins;
      rows = old.rows;
      told = λ o f t. still_holds setup x h k.0 f o (old.told o f t);
      outside = outside_goes setup x h k.0 s w old.outside;
    }
