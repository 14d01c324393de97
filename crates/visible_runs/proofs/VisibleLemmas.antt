use Rattle.std.proofs.Common.{◌≡◌, ◌≢◌, ℕ, ◌≤◌, ◌∷◌, inl, inr, ⊎_elim, sym, ap, ◌∙◌, subst, le_trans, arith}
use Rattle.std.specs.Prelude.{◌⊎◌, Option, Some}
use Rattle.std.specs.List.{Contains}
use Rattle.journal.specs.declared.entries.JournalEntry.TheVariants as entry
use Rattle.mr_base.specs.Spans.{InSpan}
use Rattle.mr_base.specs.Timestamps.{IsBelow}
use Rattle.mr_base.specs.declared.ids.AttemptId.{AttemptId}
use Rattle.mr_base.specs.declared.ids.RangeId.{RangeId}
use Rattle.mr_base.specs.declared.ids.TxnId.{TxnId}
use Rattle.mr_base.specs.declared.spans.Span.{Span}
use Rattle.mr_base.specs.declared.timestamps.Ts.{Ts}
use Rattle.run_laws.proofs.AttemptLemmas.{attempt_stays, beginning_stays}
use Rattle.run_laws.proofs.CommitLemmas.{commit_is_record, commit_stays}
use Rattle.run_laws.proofs.PutLemmas.{commit_is_above_puts}
use Rattle.run_laws.specs.Beginnings.{IsSoundSetup}
use Rattle.run_laws.specs.Determined.{IsAckAt}
use Rattle.run_laws.specs.Lawful.{IsLawful}
use Rattle.run_laws.specs.Lists.{WasServedAt}
use Rattle.run_laws.specs.Served.{IsServed}
use Rattle.run_laws.specs.Visible.{Acknowledgement, IsShownBy, IsVisible, PutInto}
use Rattle.run_words.proofs.AttemptLemmas.{put_was_made, serve_was_served}
use Rattle.run_words.proofs.HappenedLemmas.{place_of_place}
use Rattle.run_words.proofs.LogLemmas.{put_in_log}
use Rattle.run_words.specs.Askers.{txn_of}
use Rattle.run_words.specs.Attempts.{Attempt, attempt_of}
use Rattle.run_words.specs.Happened.{Always, IsPlace}
use Rattle.run_words.specs.History.{History, Made}
use Rattle.run_words.specs.Logs.{log_of}
use Rattle.run_words.specs.Puts.{CommitMade, PutMade, commit, puts}
use Rattle.run_words.specs.Relations.{WasServed}
use Rattle.run_words.specs.Serving.{ServedRead, serves}
use Rattle.run_words.specs.Setup.{Setup}
use Rattle.run_words.specs.Transactions.{Beginning, beginning, last_attempt}
use Rattle.visible_runs.proofs.AckFacts.{IsAcked, ack_below, acked}
use Rattle.visible_runs.proofs.Answered.{answered_ask_nothing}
use Rattle.held_reads.proofs.AttemptFacts.{IsNumbered, is_numbered}
use Rattle.held_reads.proofs.Basics.{not_none, some_same}
use Rattle.visible_runs.proofs.BeginFacts.{IsBegunAfter, begun_after, no_attempt}
use Rattle.held_reads.proofs.CommitFacts.{IsHigh, commit_high}
use Rattle.visible_runs.proofs.CommitOrder.{commit_before_ack, committed_attempt, committed_last, put_before_commit}
use Rattle.held_reads.proofs.ContainsLemmas.{put_in}
use Rattle.visible_runs.proofs.DecidedFacts.{IsDecidedAt, decided_at}
use Rattle.held_reads.proofs.KeptLemmas.{lawful_kept}
use Rattle.held_reads.proofs.Licenses.{attempt_by_number}
use Rattle.held_reads.proofs.LogWords.{PutIn}
use Rattle.visible_runs.proofs.Places.{before_item, older_names, place_order}
use Rattle.visible_runs.proofs.ReadFacts.{IsReadAt, read_of}
use Rattle.visible_runs.proofs.SeenCommits.{not_above}
use Rattle.visible_runs.proofs.ShownFacts.{HadServed, committed_by, serve_before, told_commit}
use Rattle.held_reads.proofs.TsLemmas.{below_or_not, le_trans as not_below_trans, total}
use Rattle.visible_runs.proofs.TxnFacts.{IsThere, attempt_begun, txn_attempt, txn_in}
use Rattle.visible_runs.specs.Laws.{AsksNothing, NameNodes}

wall_le : (a b : Ts) → IsBelow a b → a.wall ≤ b.wall
wall_le a b p = grind (arith, p)

module _ (setup : Setup) (sound : IsSoundSetup setup) (h : History) (l : IsLawful setup h) (names : NameNodes setup h) (new : Always (AsksNothing setup) h) (ack : Acknowledgement) (t : TxnId)
    (began : IsBegunAfter setup h ack t) (w : AttemptId) (made : CommitMade) (c : commit h w ≡ Some made) where
  a : IsAcked setup began.older ack
  a = acked setup began.older began.lawful ack began.acks

  place : IsPlace (Made (entry.Ack ack.txn ack.ts a.results) ∷ a.older) h
  place = place_of_place h began.older (Made (entry.Ack ack.txn ack.ts a.results) ∷ a.older) began.place a.place

  ack_wall : ack.ts.wall ≤ began.limit
  ack_wall = le_trans (ack_below setup sound began.older began.lawful (older_names setup h began.older names began.place) ack a) began.limit_high

  -- what the acknowledgement shows was committed before the other began, and within its limit
  abbrev IsEarly : Type 0
  IsEarly = (commit a.older w ≡ Some made) × (made.ts.wall ≤ began.limit)

  own_ts : txn_of a.older w ≡ Some ack.txn → commit a.older w ≡ Some made → IsAckAt a.older ack.txn w ack.ts → made.ts ≡ ack.ts
  own_ts of_t cb (inl (other, puts, co, at, known)) = ap (λ (m : CommitMade). m.ts) (some_same (sym cb ∙ co)) ∙ at
  own_ts of_t cb (inr (none, at, un)) = absurd (not_none (sym (un w of_t) ∙ cb))

  -- the acknowledged transaction's own commit
  own_early : txn_of h w ≡ Some ack.txn → IsEarly
  own_early of_t =
      let att : (x : Attempt) × (attempt_of h w ≡ Some x) × (x.txn ≡ ack.txn) = txn_attempt h w ack.txn of_t in
      let cb : commit a.older w ≡ Some made =
      commit_before_ack setup h l a.older ack.txn ack.ts a.results place w made c
      (λ x e. subst (λ (y : Attempt). y.txn ≡ ack.txn) (some_same (sym att.1 ∙ e)) att.2) in
      let old : (x : Attempt) × (attempt_of a.older w ≡ Some x) = committed_attempt setup a.older a.lawful w made cb in
      let same : old.0 ≡ att.0 = some_same (sym (attempt_stays setup h a.older w old.0 l (before_item h a.older _ place) old.1) ∙ att.1) in
      let txn : old.0.txn ≡ ack.txn = ap (λ (x : Attempt). x.txn) same ∙ att.2 in
      let last : last_attempt a.older ack.txn ≡ Some w =
      subst (λ (u : TxnId). last_attempt a.older u ≡ Some w) txn (committed_last setup a.older a.lawful w made old.0 cb old.1) in
      let mine : a.by.attempt ≡ w = some_same (sym a.by.last ∙ last) in
      let here : txn_of a.older w ≡ Some ack.txn = ap txn_in old.1 ∙ ap (λ (u : TxnId). Some u) txn in
      let ts : made.ts ≡ ack.ts = own_ts here cb (subst (λ (y : AttemptId). IsAckAt a.older ack.txn y ack.ts) mine a.by.at) in
      (cb, subst (λ (s : Ts). s.wall ≤ began.limit) (sym ts) ack_wall)

  -- what was served to the answering attempt was served at the acknowledgement's timestamp too
  again : (s : ServedRead) → Contains (serves setup a.older ack.attempt) s → WasServedAt setup a.older ack.attempt s.range s.read.span ack.ts
  again s among =
      let mine : a.by.attempt ≡ ack.attempt = some_same (sym a.by.last ∙ a.last) in
      subst (λ (y : AttemptId). Contains (serves setup a.older y) s → WasServedAt setup a.older y s.range s.read.span ack.ts) mine (a.by.answer.again s) among

  -- a commit that it saw
  seen_early : IsBelow made.ts ack.ts → PutInto setup h w ack.attempt → IsEarly
  seen_early below (put, s, among, served, range, inside) =
      let old : HadServed setup a.older ack.attempt s.range s.read.span = serve_before setup h l new ack a.results a.older place a.last s served in
      let at : WasServedAt setup a.older ack.attempt old.0.range old.0.read.span ack.ts = again old.0 old.1 in
      let was : WasServed setup at.0 a.older × (at.0.read.attempt ≡ ack.attempt) = serve_was_served setup a.older ack.attempt at.0 at.1 in (
        committed_by setup sound h l a.older (before_item h a.older _ place) at.0 was.0 w made put c among (sym range ∙ sym old.2 ∙ sym at.2)
            (subst (λ (y : Span). InSpan y put.key) (sym old.3 ∙ sym at.3) inside) (subst (λ (y : Ts). IsBelow made.ts y) (sym at.4) below),
        le_trans (wall_le made.ts ack.ts below) ack_wall,
      )

  early : IsShownBy setup h ack w made.ts → IsEarly
  early (inl of_t) = own_early of_t
  early (inr (below, into)) = seen_early below into

  pub committed_early : IsShownBy setup h ack w made.ts → (commit began.older w ≡ Some made) × (made.ts.wall ≤ began.limit)
  committed_early shown =
      let e : IsEarly = early shown in (commit_stays setup began.older a.older w made began.lawful (before_item began.older a.older _ a.place) e.0, e.1)

-- a transaction that began behind a commit, with a limit that isn't below it, and reads what that put, is above it
module _ (setup : Setup) (sound : IsSoundSetup setup) (h : History) (l : IsLawful setup h) (ack : Acknowledgement) (t : TxnId) (began : IsBegunAfter setup h ack t) (a : AttemptId) (ts : Ts)
    (d : IsDecidedAt setup h t a ts) (w : AttemptId) (made : CommitMade) (c : commit h w ≡ Some made) (cb : commit began.older w ≡ Some made) (wall : made.ts.wall ≤ began.limit) where
  other : w ≢ a
  other e =
      let old : (x : Attempt) × (attempt_of began.older w ≡ Some x) = committed_attempt setup began.older began.lawful w made cb in
      let stays : attempt_of h w ≡ Some old.0 = attempt_stays setup h began.older w old.0 l began.place old.1 in
      let same : old.0 ≡ d.attempt = some_same (sym stays ∙ ap (attempt_of h) e ∙ d.is_attempt) in
      let begun : IsThere (beginning began.older old.0.txn) = attempt_begun setup began.older began.lawful w old.0 old.1 in
      not_none (sym began.unbegun ∙ ap (beginning began.older) (sym (ap (λ (x : Attempt). x.txn) same ∙ d.of_txn)) ∙ begun.1)

  -- the commit isn't where the attempt reads, nor below it, if it isn't below the decision
  above_by : (¬ IsBelow made.ts ts) → IsBelow d.attempt.read_at made.ts ⊎ ((d.attempt.read_at ≡ made.ts) ⊎ IsBelow made.ts d.attempt.read_at) → IsBelow d.attempt.read_at made.ts
  above_by n (inl p) = p
  above_by n (inr (inl e)) =
      let high : IsHigh (attempt_of h w) (puts h w) w made.ts = commit_high setup h (lawful_kept setup h l) w made c in
      let mine : IsNumbered _ a d.attempt = is_numbered setup h (lawful_kept setup h l) a d.attempt d.is_attempt in
      absurd (other (attempt_by_number w a (sym high.owned ∙ ap (λ (x : Ts). x.owner) (sym e) ∙ mine.owned)))
  above_by n (inr (inr p)) = absurd (not_below_trans d.attempt.read_at ts made.ts d.high n p)

  module _ (put : PutMade) (among : Contains (puts h w) put) (j : RangeId) (range : j ≡ put.range) (span : Span) (inside : InSpan span put.key) (r : IsReadAt setup h a d.attempt j span) where
    -- it was read after it began
    later : IsPlace began.older r.older
    later = ⊎_elim (λ p. p) (λ p. absurd (early_read p)) (place_order h began.older r.older began.place r.place)
      where
        early_read : IsPlace r.older began.older → ⊥
        early_read p =
            not_none (sym began.unbegun ∙ subst (λ (u : TxnId). beginning began.older u ≡ Some r.begun) d.of_txn
            (beginning_stays setup began.older r.older d.attempt.txn r.begun began.lawful p r.is_begun))

    limit_is : r.limit ≡ Some began.limit
    limit_is =
        let here : beginning h t ≡ Some r.begun =
        subst (λ (u : TxnId). beginning h u ≡ Some r.begun) d.of_txn (beginning_stays setup h r.older d.attempt.txn r.begun l r.place r.is_begun) in
        r.limit_is ∙ ap (λ (b : Beginning). b.limit) (some_same (sym here ∙ began.is_begun)) ∙ began.limit_is

    there : commit r.older w ≡ Some made
    there = commit_stays setup r.older began.older w made r.lawful later cb

    put_there : PutIn w put.ts put.key put.value (log_of setup r.older j)
    put_there =
        let old : Contains (puts r.older w) put = put_before_commit setup h l r.older r.place w made there put among in
        subst (λ (k : RangeId). PutIn w put.ts put.key put.value (log_of setup r.older k)) (sym range)
        (put_in (log_of setup r.older put.range) w put.start put.anchor put.ts put.key put.value (put_in_log setup r.older w put (put_was_made r.older w put old)))

    of_t : txn_of r.older a ≡ Some t
    of_t = ap txn_in r.is_attempt ∙ ap (λ (u : TxnId). Some u) d.of_txn

    not_above_read : ¬ IsBelow d.attempt.read_at made.ts
    not_above_read above =
        not_above setup sound r.older (lawful_kept setup r.older r.lawful) r.node j a span r.at began.limit r.count r.by r.known
        (subst (λ (x : Option ℕ). IsServed setup r.older a r.node j span r.at x r.count r.by r.known) limit_is r.served) w made.ts put.ts put.key put.value
        (commit_is_record setup r.older w made r.lawful there) put_there (commit_is_above_puts setup h w made put l c among) wall other inside
        (told_commit setup h l t began.older began.place (no_attempt setup began.older began.lawful t began.unbegun) w made cb r.older r.place a of_t r.known r.served.fates)
        (subst (λ (x : Ts). IsBelow x made.ts) (sym r.at_is) above)

    pub is_below : IsBelow made.ts ts
    is_below = ⊎_elim (λ p. p) (λ n. absurd (not_above_read (above_by n (total d.attempt.read_at made.ts)))) (below_or_not made.ts ts)

-- so the history is visible
pub visible : (setup : Setup) → IsSoundSetup setup → (h : History) → IsLawful setup h → NameNodes setup h → IsVisible setup h
visible setup sound h l names ack t a ts w made b decided c shown (put, s, among, served, range, inside) =
    let began : IsBegunAfter setup h ack t = begun_after setup h l names ack t b in
    let d : IsDecidedAt setup h t a ts = decided_at setup h l t a ts decided in
    let e : (commit began.older w ≡ Some made) × (made.ts.wall ≤ began.limit) =
    committed_early setup sound h l names (answered_ask_nothing setup sound h l) ack t began w made c shown in
    is_below setup sound h l ack t began a ts d w made c e.0 e.1 put among s.range range s.read.span inside (read_of setup h l a d.attempt d.is_attempt s served)
