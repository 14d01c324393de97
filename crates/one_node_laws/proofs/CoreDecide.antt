use Rattle.std.proofs.Common.{◌≡◌, ◌≢◌, ℕ, List, [], ◌∷◌, inl, inr, ⊎_elim, refl, sym, ap, ◌∙◌, subst}
use Rattle.std.specs.Prelude.{◌⊎◌, Option, Some}
use Rattle.mr_base.specs.Timestamps.{IsBelow}
use Rattle.mr_base.specs.declared.ids.AttemptId.{AttemptId}
use Rattle.mr_base.specs.declared.timestamps.Reading.{Reading}
use Rattle.mr_base.specs.declared.timestamps.Ts.{Ts}
use Rattle.range_log.specs.Facts.{HasRecord, HasVersion}
use Rattle.range_log.specs.declared.entries.Entry.{Entry}
use Rattle.range_log.specs.declared.entries.Entry.TheVariants as log
use Rattle.range_log.specs.declared.entries.TxnState.{TxnState}
use Rattle.range_log.specs.declared.entries.TxnState.TheVariants as records
use Rattle.row_locality.specs.OneColumnDatabases.{Database, IsValid}
use Rattle.one_node_laws.proofs.Core.{Core}
use Rattle.one_node_laws.proofs.OrderLemmas.{IsPast, all_below, below_more, below_or_not, head_below, head_not_below}
use Rattle.one_node_laws.specs.Decided.{Decided, IsAmong, AreBelow, after, those_below, replay}
use Rattle.one_node_laws.specs.Words.{HasPut}
use Rattle.sql_eval.specs.OneColumnAgreement.{Holds}
use Rattle.sql_eval.specs.OneColumnExecution.{exec}

-- the replay once a transaction is decided above all others
above_it : (d : Decided) (ds : List Decided) → AreBelow d.ts ds → (ts : Ts) → IsBelow d.ts ts → replay (those_below ts (d ∷ ds)) ≡ after (exec d.statement (replay ds)) (replay ds)
above_it d ds below ts h = ap replay (head_below ts d ds h ∙ ap (λ (es : List Decided). d ∷ es) (all_below ts ds (below_more d.ts ts ds h below)))

below_it : (d : Decided) (ds : List Decided) (ts : Ts) → ¬ IsBelow d.ts ts → replay (those_below ts (d ∷ ds)) ≡ replay (those_below ts ds)
below_it d ds ts h = ap replay (head_not_below ts d ds h)

before_it : (d : Decided) (ds : List Decided) → AreBelow d.ts ds → (ts : Ts) → IsBelow d.ts ts → replay (those_below ts ds) ≡ replay ds
before_it d ds below ts h = ap replay (all_below ts ds (below_more d.ts ts ds h below))

-- what doesn't change the database doesn't change any replay
pub same_replay : (d : Decided) (ds : List Decided) → AreBelow d.ts ds → after (exec d.statement (replay ds)) (replay ds) ≡ replay ds → (ts : Ts) → replay (those_below ts (d ∷ ds)) ≡ replay (those_below ts ds)
same_replay d ds below same ts =
    ⊎_elim (λ h. above_it d ds below ts h ∙ same ∙ sym (before_it d ds below ts h)) (λ h. below_it d ds ts h) (below_or_not d.ts ts)

is_below : (ts : Ts) (ds : List Decided) (d : Decided) → AreBelow ts ds → IsAmong d ds → IsBelow d.ts ts
is_below ts [] d h i = absurd i
is_below ts (e ∷ es) d h (inl q) = subst (λ (y : Decided). IsBelow y.ts ts) q h.0
is_below ts (e ∷ es) d h (inr i) = is_below ts es d h.1 i

module _ (l : List Entry) (r : Reading) (W : Decided → Type 0) (core : Core l r W) (d : Decided) (below : AreBelow d.ts core.decided) (past : IsPast r d.ts) where
  -- a decision that changes nothing, with no new record
  abbrev pub core_same : after (exec d.statement (replay core.decided)) (replay core.decided) ≡ replay core.decided → Core l r (λ x. (d ≡ x) ⊎ W x)
  core_same same =
      record {
        decided = d ∷ core.decided;
        falling = (below, core.falling);
        are = λ x. (λ h. ⊎_elim (λ e. inl e) (λ q. inr ((core.are x).0 q)) h, λ h. ⊎_elim (λ e. inl e) (λ q. inr ((core.are x).1 q)) h);
        past = (past, core.past);
        valid = λ ts. subst (λ (y : Database). IsValid y) (sym (same_replay d core.decided below same ts)) (core.valid ts);
        recorded = λ a c h.
            let f : (y : Decided) × IsAmong y core.decided × (y.ts ≡ c) = core.recorded a c h in
            (f.0, inr f.1, f.2);
        puts_held = λ ts a c key value p rec put h.
            let f : (v : List ℕ) × (value ≡ Some v) × Holds (replay (those_below ts core.decided)) key v = core.puts_held ts a c key value p rec put h in
            (f.0, f.1, subst (λ (y : Database). Holds y key f.0) (sym (same_replay d core.decided below same ts)) f.2);
        held_puts = λ ts key v h. core.held_puts ts key v (subst (λ (y : Database). Holds y key v) (same_replay d core.decided below same ts) h);
        one_writer = core.one_writer;
        low = core.low;
        one_put = core.one_put;
        versions = core.versions;
        stands = core.stands;
      }

  -- a commit
  module _ (a : AttemptId) (fresh : (state : TxnState) → ¬ HasRecord a state l) (low : (key : List ℕ) (u : Option (List ℕ)) (p : Ts) → HasPut a key u p l → ¬ IsBelow d.ts p)
      (new_held : (key : List ℕ) (u : Option (List ℕ)) (p : Ts) → HasPut a key u p l → (v : List ℕ) × (u ≡ Some v) × Holds (after (exec d.statement (replay core.decided)) (replay core.decided)) key v)
      (held_new : (key v : List ℕ) → Holds (after (exec d.statement (replay core.decided)) (replay core.decided)) key v → ((p : Ts) × HasPut a key (Some v) p l) ⊎ Holds (replay core.decided) key v)
      (still : (key v : List ℕ) → Holds (replay core.decided) key v → Holds (after (exec d.statement (replay core.decided)) (replay core.decided)) key v)
      (apart : (key : List ℕ) (u : Option (List ℕ)) (p : Ts) (v : List ℕ) → HasPut a key u p l → ¬ Holds (replay core.decided) key v)
      (well : IsValid (after (exec d.statement (replay core.decided)) (replay core.decided))) where
    abbrev the_record : Entry
    the_record = log.State a (records.Committed d.ts)

    abbrev next : Database
    next = after (exec d.statement (replay core.decided)) (replay core.decided)

    not_own : (b : AttemptId) (state : TxnState) → HasRecord b state l → a ≢ b
    not_own b state h e = fresh state (subst (λ (y : AttemptId). HasRecord y state l) (sym e) h)

    pub kept : (b : AttemptId) (state : TxnState) → HasRecord b state l → HasRecord b state (the_record ∷ l)
    kept b state h = inr (not_own b state h, h)

    same_ts : {c e : Ts} → records.Committed c ≡ records.Committed e → c ≡ e
    same_ts q = cc

    below_by : (ts : Ts) (key v : List ℕ) → Holds (replay (those_below ts core.decided)) key v → IsBelow d.ts ts ⊎ (¬ IsBelow d.ts ts) → Holds (replay (those_below ts (d ∷ core.decided))) key v
    below_by ts key v h (inl q) =
        subst (λ (y : Database). Holds y key v) (sym (above_it d core.decided below ts q)) (still key v (subst (λ (y : Database). Holds y key v) (before_it d core.decided below ts q) h))
    below_by ts key v h (inr q) = subst (λ (y : Database). Holds y key v) (sym (below_it d core.decided ts q)) h

    pub puts_held : (ts : Ts) (b : AttemptId) (c : Ts) (key : List ℕ) (value : Option (List ℕ)) (p : Ts) → HasRecord b (records.Committed c) (the_record ∷ l) → HasPut b key value p l → IsBelow c ts
        → (v : List ℕ) × (value ≡ Some v) × Holds (replay (those_below ts (d ∷ core.decided))) key v
    puts_held ts b c key value p (inl (e, f)) put h =
        let g : (v : List ℕ) × (value ≡ Some v) × Holds next key v = new_held key value p (subst (λ (y : AttemptId). HasPut y key value p l) (sym e) put) in
        (g.0, g.1, subst (λ (y : Database). Holds y key g.0) (sym (above_it d core.decided below ts (subst (λ (y : Ts). IsBelow y ts) (sym (same_ts f)) h))) g.2)
    puts_held ts b c key value p (inr (n, rec)) put h =
        let g : (v : List ℕ) × (value ≡ Some v) × Holds (replay (those_below ts core.decided)) key v = core.puts_held ts b c key value p rec put h in
        (g.0, g.1, below_by ts key g.0 g.2 (below_or_not d.ts ts))

    old_puts : (ts : Ts) (key v : List ℕ) → Holds (replay (those_below ts core.decided)) key v
        → (b : AttemptId) × (c : Ts) × (p : Ts) × HasRecord b (records.Committed c) (the_record ∷ l) × HasPut b key (Some v) p l × IsBelow c ts
    old_puts ts key v h =
        let f : (b : AttemptId) × (c : Ts) × (p : Ts) × HasRecord b (records.Committed c) l × HasPut b key (Some v) p l × IsBelow c ts = core.held_puts ts key v h in
        (f.0, f.1, f.2, kept f.0 (records.Committed f.1) f.3, f.4, f.5)

    pub held_by : (ts : Ts) (key v : List ℕ) → Holds (replay (those_below ts (d ∷ core.decided))) key v → IsBelow d.ts ts ⊎ (¬ IsBelow d.ts ts)
        → (b : AttemptId) × (c : Ts) × (p : Ts) × HasRecord b (records.Committed c) (the_record ∷ l) × HasPut b key (Some v) p l × IsBelow c ts
    held_by ts key v h (inl q) =
        ⊎_elim (λ (x : (p : Ts) × HasPut a key (Some v) p l). (a, d.ts, x.0, inl (refl, refl), x.1, q))
        (λ (x : Holds (replay core.decided) key v). old_puts ts key v (subst (λ (y : Database). Holds y key v) (sym (before_it d core.decided below ts q)) x))
        (held_new key v (subst (λ (y : Database). Holds y key v) (above_it d core.decided below ts q) h))
    held_by ts key v h (inr q) = old_puts ts key v (subst (λ (y : Database). Holds y key v) (below_it d core.decided ts q) h)

    -- another's committed put is at another key
    other_key : (b : AttemptId) (c : Ts) (key : List ℕ) (u w : Option (List ℕ)) (p q : Ts) → HasPut a key u p l → HasRecord b (records.Committed c) l → HasPut b key w q l → ⊥
    other_key b c key u w p q mine rec put =
        let dd : (y : Decided) × IsAmong y core.decided × (y.ts ≡ c) = core.recorded b c rec in
        let under : IsBelow c d.ts = subst (λ (y : Ts). IsBelow y d.ts) dd.2 (is_below d.ts core.decided dd.0 below dd.1) in
        let g : (v : List ℕ) × (w ≡ Some v) × Holds (replay (those_below d.ts core.decided)) key v = core.puts_held d.ts b c key w q rec put under in
        apart key u p g.0 mine (subst (λ (y : Database). Holds y key g.0) (ap replay (all_below d.ts core.decided below)) g.2)

    pub one_writer : (b e : AttemptId) (c f : Ts) (key : List ℕ) (u v : Option (List ℕ)) (p q : Ts) → HasRecord b (records.Committed c) (the_record ∷ l) → HasPut b key u p l
        → HasRecord e (records.Committed f) (the_record ∷ l) → HasPut e key v q l → b ≡ e
    one_writer b e c f key u v p q (inl (x, y)) pb (inl (x', y')) pe = sym x ∙ x'
    one_writer b e c f key u v p q (inl (x, y)) pb (inr (n, rec)) pe = absurd (other_key e f key u v p q (subst (λ (z : AttemptId). HasPut z key u p l) (sym x) pb) rec pe)
    one_writer b e c f key u v p q (inr (n, rec)) pb (inl (x, y)) pe = absurd (other_key b c key v u q p (subst (λ (z : AttemptId). HasPut z key v q l) (sym x) pe) rec pb)
    one_writer b e c f key u v p q (inr (n, rec)) pb (inr (n', rec')) pe = core.one_writer b e c f key u v p q rec pb rec' pe

    pub low_all : (b : AttemptId) (c : Ts) (key : List ℕ) (u : Option (List ℕ)) (p : Ts) → HasRecord b (records.Committed c) (the_record ∷ l) → HasPut b key u p l → ¬ IsBelow c p
    low_all b c key u p (inl (x, y)) put = subst (λ (t : Ts). ¬ IsBelow t p) (same_ts y) (low key u p (subst (λ (z : AttemptId). HasPut z key u p l) (sym x) put))
    low_all b c key u p (inr (n, rec)) put = core.low b c key u p rec put

    pub recorded : (b : AttemptId) (c : Ts) → HasRecord b (records.Committed c) (the_record ∷ l) → (y : Decided) × IsAmong y (d ∷ core.decided) × (y.ts ≡ c)
    recorded b c (inl (x, y)) = (d, inl refl, same_ts y)
    recorded b c (inr (n, rec)) =
        let f : (y : Decided) × IsAmong y core.decided × (y.ts ≡ c) = core.recorded b c rec in
        (f.0, inr f.1, f.2)

    pub valid_by : (ts : Ts) → IsBelow d.ts ts ⊎ (¬ IsBelow d.ts ts) → IsValid (replay (those_below ts (d ∷ core.decided)))
    valid_by ts (inl q) = subst (λ (y : Database). IsValid y) (sym (above_it d core.decided below ts q)) well
    valid_by ts (inr q) = subst (λ (y : Database). IsValid y) (sym (below_it d core.decided ts q)) (core.valid ts)

    abbrev pub core_commit : Core (the_record ∷ l) r (λ x. (d ≡ x) ⊎ W x)
    core_commit =
        record {
          decided = d ∷ core.decided;
          falling = (below, core.falling);
          are = λ x. (λ h. ⊎_elim (λ e. inl e) (λ q. inr ((core.are x).0 q)) h, λ h. ⊎_elim (λ e. inl e) (λ q. inr ((core.are x).1 q)) h);
          past = (past, core.past);
          valid = λ ts. valid_by ts (below_or_not d.ts ts);
          recorded = recorded;
          puts_held = puts_held;
          held_puts = λ ts key v h. held_by ts key v h (below_or_not d.ts ts);
          one_writer = one_writer;
          low = low_all;
          one_put = core.one_put;
          versions = λ v h. ⊎_elim (λ e. absurd e)
              (λ (q : HasVersion v l × _).
              let f : (b : AttemptId) × (p : Ts) × HasRecord b (records.Committed v.ts) l × HasPut b v.key v.value p l = core.versions v q.0 in
              (f.0, f.1, kept f.0 (records.Committed v.ts) f.2, f.3)) h;
          stands = λ b key u p put. ⊎_elim (λ x. inl x)
              (λ (x : (c : Ts) × HasRecord b (records.Committed c) l × HasVersion (record { key = key; ts = c; value = u }) l). inr (x.0, kept b (records.Committed x.0) x.1, inr (x.2, λ w m. absurd m)))
              (core.stands b key u p put);
        }
