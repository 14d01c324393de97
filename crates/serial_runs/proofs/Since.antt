use Rattle.std.proofs.Common.{◌≡◌, ℕ, ◌≤◌, true, List, [], ◌∷◌, ◌++◌, map, reverse, inl, inr, ⊎_elim, refl, sym, ap, ◌∙◌, subst, arith}
use Rattle.std.specs.Prelude.{◌⊎◌, ◌==◌, IsSome, Option, Some, None, unwrap_or}
use Rattle.std.specs.List.{Contains}
use Rattle.answer_laws.proofs.Members.{Has, has_itself}
use Rattle.answer_laws.proofs.MoreMembers.{append_has, map_has}
use Rattle.closed_ts.specs.Targets.{at_wall}
use Rattle.journal.specs.declared.entries.JournalEntry.TheVariants as entry
use Rattle.journal.specs.declared.events.Event.TheVariants as events
use Rattle.journal.specs.declared.events.Event.{Event}
use Rattle.mr_base.specs.Timestamps.{IsBelow}
use Rattle.mr_base.specs.declared.ids.AttemptId.{AttemptId}
use Rattle.mr_base.specs.declared.ids.RangeId.{RangeId}
use Rattle.mr_base.specs.declared.timestamps.Ts.{Ts}
use Rattle.range_log.specs.Facts.{lease_of}
use Rattle.range_log.specs.declared.entries.Entry.TheVariants as log
use Rattle.range_log.specs.declared.entries.Entry.{Entry}
use Rattle.range_log.specs.declared.entries.Lease.{Lease}
use Rattle.row_locality.specs.Pairs.{KeyValue}
use Rattle.row_locality.specs.Plain.{range_pairs}
use Rattle.run_laws.proofs.LawfulLemmas.{happened_so}
use Rattle.run_laws.specs.Appended.{IsLeased}
use Rattle.run_laws.specs.Beginnings.{AreRowsAt, BeginsWith, IsSoundSetup, load_of}
use Rattle.run_laws.specs.Lawful.{IsLawful, IsPermitted}
use Rattle.run_words.proofs.AttemptLemmas.{put_was_made}
use Rattle.run_words.proofs.MemberLemmas.{contains_first, contains_later}
use Rattle.run_words.specs.Clocks.{schema}
use Rattle.run_words.specs.Happened.{IsPlace}
use Rattle.run_words.specs.History.{History, Item, Made}
use Rattle.run_words.specs.Logs.{log_of}
use Rattle.run_words.specs.Puts.{PutMade, puts}
use Rattle.run_words.specs.Ranges.{range_of}
use Rattle.run_words.specs.Relations.{IsPut}
use Rattle.run_words.specs.Setup.{Setup}
use Rattle.run_words.specs.Steps.{event_of}
use Rattle.serial_runs.proofs.Loads.{new_there, reversed_cases}
use Rattle.serial_runs.proofs.Numbers.{ranges_same, some_same}
use Rattle.serial_runs.proofs.TsOrder.{later_right, le_trans, not_itself, total}

-- no schema changes in a lawful history
pub schema_same : (setup : Setup) (h : History) → IsLawful setup h → schema setup h ≡ setup.schema
schema_same setup [] l = refl
schema_same setup (Made (entry.Schema ts) ∷ h) l = absurd l.0.order
schema_same setup (x ∷ h) l = schema_same setup h l.1

-- ---- the low waters of leases

lease_in : (l : List Entry) (x : Lease) → lease_of l ≡ Some x → Contains l (log.Lease x)
lease_in [] x e = absurd (cc e)
lease_in (log.Lease y ∷ l) x e = subst (λ (z : Lease). Contains (log.Lease y ∷ l) (log.Lease z)) (some_same e) (contains_first (log.Lease y) l)
lease_in (y ∷ l) x e = contains_later y (log.Lease x) l (lease_in l x e)

not_a_load : (ts : Ts) (p : KeyValue) (x : Lease) → load_of ts p ≡ log.Lease x → ⊥
not_a_load ts p x e = cc

same_lease : (x y : Lease) → log.Lease x ≡ log.Lease y → x ≡ y
same_lease x y e = cc

module _ (setup : Setup) (sound : IsSoundSetup setup) (changed : Ts) (at : setup.schema ≡ Some changed) where
  begins_low : (j : RangeId) (schema : Option Ts) → schema ≡ Some changed → BeginsWith setup j schema → (x : Lease) → Contains (setup.beginning j) (log.Lease x) → ¬ IsBelow x.low changed
  begins_low j None e b x c = absurd (cc e)
  begins_low j (Some ts) e b x c =
      let ps : List KeyValue = range_pairs setup.layout setup.rows j in
      let loads : List Entry = map (load_of ts) ps in
      let k : Has (log.Lease x) (reverse loads ++ log.Lease b.0 ∷ []) =
      has_itself (log.Lease x) (reverse loads ++ log.Lease b.0 ∷ []) (subst (λ (l : List Entry). Contains l (log.Lease x)) b.4 c) in
      ⊎_elim
      (λ q.
      let f : (p : KeyValue) × Has p ps × (load_of ts p ≡ log.Lease x) = map_has (load_of ts) ps (log.Lease x) (reversed_cases (log.Lease x) loads q) in
      absurd (not_a_load ts f.0 x f.2))
      (λ q. only q)
      (append_has (reverse loads) (log.Lease b.0 ∷ []) (log.Lease x) k)
    where
      low_is : b.0.low ≡ changed
      low_is = b.2 ∙ some_same e

      only : Has (log.Lease x) (log.Lease b.0 ∷ []) → ¬ IsBelow x.low changed
      only (inl q) = subst (λ (t : Ts). ¬ IsBelow t changed) (sym low_is ∙ ap (λ (y : Lease). y.low) (same_lease b.0 x q)) (not_itself changed)
      only (inr q) = absurd q

  module _ (h : History) (lawful : IsLawful setup h) (j : RangeId) (old : (x : Lease) → Contains (log_of setup h j) (log.Lease x) → ¬ IsBelow x.low changed) where
    last_low : (last : Lease) → lease_of (log_of setup h j) ≡ Some last → ¬ IsBelow last.low changed
    last_low last e = old last (lease_in (log_of setup h j) last e)

    leased_low : (x : Lease) (event : Option Event) → IsLeased setup h j x event → ¬ IsBelow x.low changed
    leased_low x (Some events.Begin) f =
        let is : x.low ≡ changed = f.is.low_is ∙ ap (λ (o : Option Ts). unwrap_or o (at_wall 0)) (schema_same setup h lawful ∙ at) in
        subst (λ (t : Ts). ¬ IsBelow t changed) (sym is) (not_itself changed)
    leased_low x (Some (events.LeaseAcquire r n)) f =
        le_trans changed f.0.low x.low (last_low f.0 f.1)
        (subst (λ (t : Ts). ¬ IsBelow t f.0.low) (sym f.3.2.low_is) (later_right (at_wall f.0.expiration) f.0.low))
    leased_low x (Some (events.LeaseTransfer r n)) f = le_trans changed f.0.low x.low (last_low f.0 f.1) f.3.3.old
    leased_low x (Some (events.LeaseExtend r)) f =
        subst (λ (t : Ts). ¬ IsBelow t changed) (sym f.3.1.low_is) (last_low f.0 f.1)
    leased_low x event f = absurd f.3

    new_low : (range : RangeId) (index : ℕ) (e : Entry) (x : Lease) → range ≡ j → IsPermitted setup h (Made (entry.Append range index e)) → e ≡ log.Lease x → ¬ IsBelow x.low changed
    new_low range index e x q p f =
        let r : IsPermitted setup h (Made (entry.Append j index (log.Lease x))) =
        subst (λ (k : RangeId). IsPermitted setup h (Made (entry.Append k index (log.Lease x)))) q
        (subst (λ (y : Entry). IsPermitted setup h (Made (entry.Append range index y))) f p) in
        leased_low x (event_of h) r.appended.by

  -- no lease has a low water below the schema change
  pub low_since : (h : History) → IsLawful setup h → (j : RangeId) → IsSome (range_of setup h j) → (x : Lease) → Contains (log_of setup h j) (log.Lease x) → ¬ IsBelow x.low changed
  low_since [] l j live x c = begins_low j setup.schema at (sound.begins j live) x c
  low_since (Made (entry.Append range index e) ∷ h) l j live x c =
      ⊎_elim
      (λ (q : ((range.0 == j.0) ≡ true) × (e ≡ log.Lease x)). new_low h l.1 j (low_since h l.1 j live) range index e x (ranges_same range j q.0) l.0 q.1)
      (λ q. low_since h l.1 j live x q)
      (new_there (range.0 == j.0) e (log.Lease x) (log_of setup h j) c)
  low_since (y ∷ h) l j live x c = low_since h l.1 j live x c

  put_low : (a : AttemptId) (p : PutMade) (x : Item) (g : History) → IsPut a p x g → IsPermitted setup g x → IsLawful setup g → ¬ IsBelow p.ts changed
  put_low a p (Made (entry.Append range index (log.Put b start anchor ts key value))) g e perm l =
      let holder : (lease : Lease) × (lease_of (log_of setup g range) ≡ Some lease) = (perm.appended.by.acting.1.0, perm.appended.by.acting.1.2) in
      subst (λ (y : PutMade). ¬ IsBelow y.ts changed) (sym e.1)
      (le_trans changed holder.0.low ts
      (low_since g l range perm.appended.live holder.0 (lease_in (log_of setup g range) holder.0 holder.1))
      (perm.laid.low holder.0 holder.1))
  put_low a p x g e perm l = absurd e

  -- no put is below the schema change
  pub put_since : (h : History) → IsLawful setup h → (a : AttemptId) (p : PutMade) → Contains (puts h a) p → ¬ IsBelow p.ts changed
  put_since h l a p c =
      let f : (x : Item) × (g : History) × IsPlace (x ∷ g) h × IsPut a p x g × IsPermitted setup g x × IsLawful setup g =
      happened_so setup h (IsPut a p) l (put_was_made h a p c) in
      put_low a p f.0 f.1 f.3 f.4 f.5

  owner_none : changed.owner ≡ 0
  owner_none = (subst (λ (o : Option Ts). AreRowsAt setup o) at sound.at).0

  -- what isn't below the schema change and has an owner is above it
  pub above_since : (ts : Ts) (a : AttemptId) → ts.owner ≡ a.0 → 1 ≤ a.0 → ¬ IsBelow ts changed → IsBelow changed ts
  above_since ts a o pos n = by (total ts changed)
    where
      by : IsBelow ts changed ⊎ ((ts ≡ changed) ⊎ IsBelow changed ts) → IsBelow changed ts
      by (inl q) = absurd (n q)
      by (inr (inl e)) =
          let z : ts.owner ≡ 0 = ap (λ (t : Ts). t.owner) e ∙ owner_none in
          absurd (omega (arith, z, o, pos))
      by (inr (inr q)) = q
