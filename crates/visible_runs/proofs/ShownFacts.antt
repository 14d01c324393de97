use Rattle.std.proofs.Common.{◌≡◌, ℕ, suc, List, [], ◌∷◌, inl, inr, ⊎_elim, refl, sym, ap, ◌∙◌, subst, option_map, arith, true≢false}
use Rattle.std.specs.Prelude.{◌==◌, All, IsSome, Option, Some, None}
use Rattle.std.specs.List.{Contains}
use Rattle.journal.specs.declared.entries.JournalEntry.TheVariants as entry
use Rattle.mr_base.specs.Spans.{InSpan}
use Rattle.mr_base.specs.Timestamps.{IsBelow}
use Rattle.mr_base.specs.declared.ids.AttemptId.{AttemptId}
use Rattle.mr_base.specs.declared.ids.RangeId.{RangeId}
use Rattle.mr_base.specs.declared.ids.TxnId.{TxnId}
use Rattle.mr_base.specs.declared.messages.Fate.TheVariants as fates
use Rattle.mr_base.specs.declared.messages.Fate.{Fate}
use Rattle.mr_base.specs.declared.messages.Known.{Known}
use Rattle.mr_base.specs.declared.results.StatementResult.{StatementResult}
use Rattle.mr_base.specs.declared.spans.Ask.{Ask}
use Rattle.mr_base.specs.declared.spans.Span.{Span}
use Rattle.mr_base.specs.declared.timestamps.Ts.{Ts}
use Rattle.mvcc_range.specs.Answer.{Sees, TellsFate}
use Rattle.run_laws.proofs.AttemptLemmas.{attempt_stays}
use Rattle.run_laws.proofs.CommitLemmas.{commit_is_record, commit_stays}
use Rattle.run_laws.proofs.LawfulLemmas.{happened_so, older_lawful}
use Rattle.run_laws.specs.Beginnings.{IsSoundSetup}
use Rattle.run_laws.specs.Held.{IsWritten}
use Rattle.run_laws.specs.Lawful.{IsLawful, IsPermitted}
use Rattle.run_laws.specs.Lists.{AsksNext, WasServedAt}
use Rattle.run_laws.specs.Served.{IsAsked, IsLearned}
use Rattle.run_laws.specs.Visible.{Acknowledgement, Acknowledges}
use Rattle.run_words.proofs.HappenedLemmas.{happened_place, happened_since, place_happened, place_of_place}
use Rattle.run_words.proofs.MemberLemmas.{contains_none, picked_cases}
use Rattle.run_words.specs.Askers.{txn_of}
use Rattle.run_words.specs.Attempts.{Attempt, attempt_of}
use Rattle.run_words.specs.Happened.{Always, IsPlace}
use Rattle.run_words.specs.History.{History, Item, Made}
use Rattle.run_words.specs.Logs.{log_of}
use Rattle.run_words.specs.Puts.{CommitMade, PutMade, commit, fate_of, fate_shown, puts, record_of}
use Rattle.run_words.specs.Relations.{IsFated, IsServe, ShowsSince, Stood, WasServed}
use Rattle.run_words.specs.Serving.{ServedRead, serves}
use Rattle.run_words.specs.Setup.{Setup}
use Rattle.run_words.specs.Transactions.{last_attempt}
use Rattle.held_reads.proofs.Basics.{some_same}
use Rattle.held_reads.proofs.CommitFacts.{IsHigh, commit_high}
use Rattle.held_reads.proofs.ContainsLemmas.{load_in}
use Rattle.held_reads.proofs.HeldLemmas.{seen_written, written_seen}
use Rattle.held_reads.proofs.KeptLemmas.{lawful_kept}
use Rattle.held_reads.proofs.Licenses.{attempt_by_number}
use Rattle.held_reads.proofs.LogFacts.{licensed}
use Rattle.visible_runs.proofs.Places.{before_item, place_order}
use Rattle.held_reads.proofs.Standing.{version_of}
use Rattle.visible_runs.proofs.TxnFacts.{IsThere, last_stays, txn_attempt}
use Rattle.held_reads.proofs.VersionLemmas.{load_unowned, unowned_apart}
use Rattle.visible_runs.specs.Laws.{AsksNothing}

some_there : {X : Type 0} (o : Option X) → IsSome o → IsThere o
some_there None s = absurd (true≢false (sym s))
some_there (Some x) s = (x, refl)

-- what is told was learned
told_learned : (P : Known → Type 0) (ks : List Known) (o : AttemptId) (f : Fate) → All P ks → TellsFate ks o f → (k : Known) × P k × (k.attempt ≡ o) × (k.fate ≡ f)
told_learned P [] o f all t = absurd t
told_learned P (k ∷ ks) o f all (inl t) = told_learned P ks o f (λ i d h. all (suc i) d (omega (arith, h))) t
told_learned P (k ∷ ks) o f all (inr t) = (k, all 0 k (omega arith), t.0, t.1)

-- what a transaction learns of an attempt that committed before it began is that commit
module _ (setup : Setup) (h : History) (l : IsLawful setup h) (t : TxnId) (began : History) (place : IsPlace began h) (none : IsThere (last_attempt began t) → ⊥)
    (w : AttemptId) (made : CommitMade) (c : commit began w ≡ Some made) where
  shown_commit : (g : History) → IsLawful setup g → IsPlace began g → (f : Fate) → fate_shown g w ≡ Some f → f ≡ fates.Committed made.ts
  shown_commit g lg p f e = some_same (sym e ∙ ap (option_map fate_of) (commit_is_record setup g w made lg (commit_stays setup g began w made lg p c)))

  stood_since : (g : History) → IsPlace g h → (f : Fate) → Stood t w f g → f ≡ fates.Committed made.ts
  stood_since g pg f s =
      let q : (x : Item) × (o : History) × IsPlace (x ∷ o) g × ShowsSince t w f x o = happened_place (ShowsSince t w f) g s in
      let there : IsPlace (q.0 ∷ q.1) h = place_of_place h g (q.0 ∷ q.1) pg q.2 in
      ⊎_elim (λ p. shown_commit (q.0 ∷ q.1) (older_lawful setup h (q.0 ∷ q.1) l there) p f q.3.1)
      (λ p. absurd (none (last_stays began (q.0 ∷ q.1) t p (some_there (last_attempt (q.0 ∷ q.1) t) q.3.0)))) (place_order h began (q.0 ∷ q.1) place there)

  fated_so : (x : Item) (o g : History) → IsPlace g h → IsPlace o g → (b : AttemptId) (f : Fate) → txn_of g b ≡ Some t → IsFated b w f x o → IsPermitted setup o x → f ≡ fates.Committed made.ts
  fated_so (Made (entry.Fated b' w' f')) o g pg po b f of_t (mine, of_w, is) permitted =
      let old : (x : Attempt) × (attempt_of o b' ≡ Some x) × (x.txn ≡ permitted.records.txn) = txn_attempt o b' permitted.records.txn permitted.records.is_txn in
      let new : (x : Attempt) × (attempt_of g b ≡ Some x) × (x.txn ≡ t) = txn_attempt g b t of_t in
      let stays : attempt_of g b ≡ Some old.0 = attempt_stays setup g o b old.0 (older_lawful setup h g l pg) po (ap (attempt_of o) (sym mine) ∙ old.1) in
      let same : permitted.records.txn ≡ t = sym old.2 ∙ ap (λ (x : Attempt). x.txn) (some_same (sym stays ∙ new.1)) ∙ new.2 in
      stood_since o (place_of_place h g o pg po) f
      (subst (λ (y : TxnId). Stood y w f o) same (subst (λ (y : AttemptId). Stood permitted.records.txn y f o) of_w (subst (λ (y : Fate). Stood permitted.records.txn w' y o) is permitted.records.stood)))
  fated_so x o g pg po b f of_t e permitted = absurd e

  pub told_commit : (g : History) → IsPlace g h → (a : AttemptId) → txn_of g a ≡ Some t → (ks : List Known) → All (IsLearned g a) ks → (f : Fate) → TellsFate ks w f → f ≡ fates.Committed made.ts
  told_commit g pg a of_t ks all f told =
      let k : (k : Known) × IsLearned g a k × (k.attempt ≡ w) × (k.fate ≡ f) = told_learned (IsLearned g a) ks w f all told in
      let b : AttemptId = k.1.0 in
      let of_b : txn_of g b ≡ Some t = k.1.3 ∙ sym k.1.2 ∙ of_t in
      let q : (x : Item) × (o : History) × IsPlace (x ∷ o) g × IsFated b k.0.attempt k.0.fate x o × IsPermitted setup o x × IsLawful setup o =
      happened_so setup g (IsFated b k.0.attempt k.0.fate) (older_lawful setup h g l pg) k.1.4 in
      fated_so q.0 q.1 g pg (before_item g q.1 q.0 q.2) b f of_b
      (subst (λ (y : Fate). IsFated b w y q.0 q.1) k.3 (subst (λ (y : AttemptId). IsFated b y k.0.fate q.0 q.1) k.2 q.3)) q.4

-- what an acknowledged attempt was served, it was served before
abbrev pub HadServed : Setup → History → AttemptId → RangeId → Span → Type 0
HadServed setup h a j span = (s : ServedRead) × Contains (serves setup h a) s × (s.range ≡ j) × (s.read.span ≡ span)

served_again : (setup : Setup) (h : History) (b : AttemptId) (j : RangeId) (span : Span) (at : Ts) (limit : Option ℕ) → IsAsked setup h b j span at limit → ((ask : Ask) → ¬ AsksNext setup h b ask)
    → HadServed setup h b j span
served_again setup h b j span at limit (inl r) none = absurd (none (record { range = j; span = span }) r.next)
served_again setup h b j span at limit (inr (from, r, no_limit)) none =
    let g : WasServedAt setup h b j span r.attempt.read_at = r.served in (g.0, g.1, g.2, g.3)

pub serve_before : (setup : Setup) (h : History) → IsLawful setup h → Always (AsksNothing setup) h → (ack : Acknowledgement) (results : List StatementResult) (older : History)
    → IsPlace (Made (entry.Ack ack.txn ack.ts results) ∷ older) h → last_attempt older ack.txn ≡ Some ack.attempt
    → (s : ServedRead) → Contains (serves setup h ack.attempt) s → HadServed setup older ack.attempt s.range s.read.span
serve_before setup [] l new ack results older p last s c = absurd (contains_none s c)
serve_before setup (x ∷ h) l new ack results older (inl p) last s c = (s, subst (λ (g : History). Contains (serves setup g ack.attempt) s) (sym p) c, refl, refl)
serve_before setup (Made (entry.Serve b node j span at limit count by known) ∷ h) l new ack results older (inr p) last s c =
    ⊎_elim
    (λ (q : (b ≡ ack.attempt) × (s ≡ _)).
    let none : (ask : Ask) → ¬ AsksNext setup h ack.attempt ask =
    λ ask n. new.0 ack ask (place_happened (Acknowledges ack) h (Made (entry.Ack ack.txn ack.ts results)) older p (refl, refl, last)) n in
    let g : HadServed setup h ack.attempt j span =
    served_again setup h ack.attempt j span at limit (subst (λ (y : AttemptId). IsAsked setup h y j span at limit) q.0 l.0.served.asked) none in
    let old : HadServed setup older ack.attempt g.0.range g.0.read.span = serve_before setup h l.1 new.1 ack results older p last g.0 g.1 in
    (old.0, old.1, old.2 ∙ g.2 ∙ ap (λ (y : ServedRead). y.range) (sym q.1), old.3 ∙ g.3 ∙ ap (λ (y : ServedRead). y.read.span) (sym q.1)))
    (λ q. serve_before setup h l.1 new.1 ack results older p last s q)
    (picked_cases (b.0 == ack.attempt.0) b ack.attempt _ s (serves setup h ack.attempt) refl c)
serve_before setup (x ∷ h) l new ack results older (inr p) last s c = serve_before setup h l.1 new.1 ack results older p last s c

-- what a read saw was committed where it was served
module _ (setup : Setup) (sound : IsSoundSetup setup) (h : History) (l : IsLawful setup h) (older : History) (place : IsPlace older h) (s : ServedRead) (was : WasServed setup s older)
    (w : AttemptId) (made : CommitMade) (put : PutMade) (c : commit h w ≡ Some made) (among : Contains (puts h w) put) (range : put.range ≡ s.range) (inside : InSpan s.read.span put.key)
    (below : IsBelow made.ts s.read.at) where
  lo : IsLawful setup older
  lo = older_lawful setup h older l place

  high : IsHigh (attempt_of h w) (puts h w) w made.ts
  high = commit_high setup h (lawful_kept setup h l) w made c

  sees : Sees s.entries s.read (version_of put.key made.ts put.value)
  sees =
      written_seen setup sound h (lawful_kept setup h l) s (happened_since (IsServe setup s) h older place was) put.key inside made.ts put.value below s.read.limit
      (inr (w, made, put, c, refl, among, range, refl, refl))

  back : IsWritten setup older s.range put.key made.ts put.value → commit older w ≡ Some made
  back (inl (x, load, e)) =
      absurd (unowned_apart made.ts w
      (load_unowned (record_of older) (log_of setup older s.range) made.ts put.key x (licensed setup sound older (lawful_kept setup older lo) s.range) (load_in (log_of setup older s.range) made.ts put.key x load))
      high.owned high.positive)
  back (inr (a, other, p, ca, at, among_a, range_a, key_a, value_a)) =
      let theirs : IsHigh (attempt_of older a) (puts older a) a other.ts = commit_high setup older (lawful_kept setup older lo) a other ca in
      let same : a ≡ w = attempt_by_number a w (sym theirs.owned ∙ ap (λ (t : Ts). t.owner) at ∙ high.owned) in
      let mine : commit older w ≡ Some other = ap (commit older) (sym same) ∙ ca in
      mine ∙ ap (λ (m : CommitMade). Some m) (some_same (sym (commit_stays setup h older w other l place mine) ∙ c))

  pub committed_by : commit older w ≡ Some made
  committed_by = back (seen_written setup sound older (lawful_kept setup older lo) s was (version_of put.key made.ts put.value) sees)
