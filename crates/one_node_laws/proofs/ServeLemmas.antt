use Rattle.std.proofs.Common.{◌≡◌, ℕ, List, [], inl, inr, sym, ◌∙◌, subst}
use Rattle.std.specs.Prelude.{◌⊎◌, Option, Some}
use Rattle.mr_base.specs.Spans.{InSpan}
use Rattle.mr_base.specs.Timestamps.{IsBelow}
use Rattle.mr_base.specs.declared.ids.AttemptId.{AttemptId}
use Rattle.mr_base.specs.declared.messages.Fate.{Fate}
use Rattle.mr_base.specs.declared.messages.Fate.TheVariants as fates
use Rattle.mr_base.specs.declared.messages.Known.{Known}
use Rattle.mr_base.specs.declared.timestamps.Reading.{Reading}
use Rattle.mr_base.specs.declared.timestamps.Ts.{Ts}
use Rattle.mvcc_range.specs.Answer.{Read, GivesRows, IsRow, Sees, TellsFate}
use Rattle.range_log.specs.Facts.{Laid, HasIntent, HasRecord, HasVersion, Version}
use Rattle.range_log.specs.declared.entries.Entry.{Entry}
use Rattle.range_log.specs.declared.entries.TxnState.TheVariants as records
use Rattle.one_node_laws.proofs.Core.{Core}
use Rattle.one_node_laws.proofs.LogFacts.{one_commit_of}
use Rattle.one_node_laws.proofs.OrderLemmas.{below_trans, not_itself}
use Rattle.one_node_laws.specs.Decided.{Decided, those_below, replay}
use Rattle.one_node_laws.specs.Words.{HasPut}
use Rattle.sql_eval.specs.OneColumnAgreement.{AgreesOn, Holds}

some_same : {u v : List ℕ} → Some u ≡ Some v → u ≡ v
some_same e = cc

module _ (l : List Entry) (r : Reading) (W : Decided → Type 0) (core : Core l r W) (read : Read) (known : read.known ≡ []) (gives : GivesRows l read)
    (own : (c : Ts) → HasRecord read.attempt (records.Committed c) l → ¬ IsBelow c read.at) where
  no_fate : (a : AttemptId) (f : Fate) → ¬ TellsFate read.known a f
  no_fate a f h = subst (λ (ks : List Known). TellsFate ks a f) known h

  -- what is seen is the put of a committed attempt
  seen_put : (v : Version) → Sees l read v → (a : AttemptId) × (p : Ts) × HasRecord a (records.Committed v.ts) l × HasPut a v.key v.value p l
  seen_put v (inl h) = core.versions v h
  seen_put v (inr (i, h, other, at, told, value)) = absurd (no_fate i.attempt (fates.Committed v.ts) told)

  -- a committed put stands as a version where the read gives rows
  is_version : (key : List ℕ) → InSpan read.span key → (a : AttemptId) (c p : Ts) (u : Option (List ℕ)) → HasRecord a (records.Committed c) l → HasPut a key u p l → IsBelow c read.at
      → (((i : Laid) × HasIntent key i l × (i.attempt ≡ a) × (i.value ≡ u) × (i.ts ≡ p)) ⊎ ((d : Ts) × HasRecord a (records.Committed d) l × HasVersion (record { key = key; ts = d; value = u }) l))
      → HasVersion (record { key = key; ts = c; value = u }) l
  is_version key inside a c p u rec put below (inl (i, int, x, y, z)) =
      absurd ((gives key inside).0 i (
        int,
        (λ e. own c (subst (λ (b : AttemptId). HasRecord b (records.Committed c) l) (sym x ∙ e) rec) below),
        inl (λ late. core.low a c key u p rec put (below_trans c read.at p below (subst (λ (t : Ts). IsBelow read.at t) z late))),
        λ f told settles. no_fate i.attempt f told,
      ))
  is_version key inside a c p u rec put below (inr (d, rec', ver)) =
      subst (λ (t : Ts). HasVersion (record { key = key; ts = t; value = u }) l) (one_commit_of l a d c rec' rec) ver

  row_of : (key v : List ℕ) → InSpan read.span key → Holds (replay (those_below read.at core.decided)) key v → IsRow l read key v
  row_of key v inside h =
      let f : (a : AttemptId) × (c : Ts) × (p : Ts) × HasRecord a (records.Committed c) l × HasPut a key (Some v) p l × IsBelow c read.at = core.held_puts read.at key v h in (
        f.1,
        record {
          seen = inl (is_version key inside f.0 f.1 f.2 (Some v) f.3 f.4 f.5 (core.stands f.0 key (Some v) f.2 f.4));
          below = f.5;
          newest = λ w s q b late.
              let g : (a : AttemptId) × (p : Ts) × HasRecord a (records.Committed w.ts) l × HasPut a w.key w.value p l = seen_put w s in
              let same : g.0 ≡ f.0 = core.one_writer g.0 f.0 w.ts f.1 key w.value (Some v) g.1 f.2 g.2 (subst (λ (k : List ℕ). HasPut g.0 k w.value g.1 l) q g.3) f.3 f.4 in
              not_itself f.1 (subst (λ (t : Ts). IsBelow f.1 t) (one_commit_of l f.0 w.ts f.1 (subst (λ (a : AttemptId). HasRecord a (records.Committed w.ts) l) same g.2) f.3) late);
        },
      )

  held_of : (key v : List ℕ) → IsRow l read key v → Holds (replay (those_below read.at core.decided)) key v
  held_of key v (ts, n) =
      let f : (a : AttemptId) × (p : Ts) × HasRecord a (records.Committed ts) l × HasPut a key (Some v) p l = seen_put (record { key = key; ts = ts; value = Some v }) n.seen in
      let g : (u : List ℕ) × (Some v ≡ Some u) × Holds (replay (those_below read.at core.decided)) key u = core.puts_held read.at f.0 ts key (Some v) f.1 f.2 f.3 n.below in
      subst (λ (u : List ℕ). Holds (replay (those_below read.at core.decided)) key u) (sym (some_same g.1)) g.2

  -- what a read was served is what the decided transactions below it make
  pub served_is_held : AgreesOn (replay (those_below read.at core.decided)) read.span (IsRow l read)
  served_is_held key v inside = (λ h. row_of key v inside h, λ h. held_of key v h)
