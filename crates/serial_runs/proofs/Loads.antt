use Rattle.std.proofs.Common.{◌≡◌, ℕ, Bool, true, false, cond, List, [], ◌∷◌, ◌++◌, map, reverse, inl, inr, ⊎_elim, refl, sym, ap, subst}
use mathlib.Core.List.{reverse_aux}
use Rattle.std.specs.Prelude.{◌⊎◌, ◌==◌, IsSome, Option, Some, None}
use Rattle.std.specs.List.{Contains}
use Rattle.answer_laws.proofs.Members.{Has, has_itself}
use Rattle.answer_laws.proofs.MoreMembers.{append_has, has_first, has_map, map_has}
use Rattle.journal.specs.declared.entries.JournalEntry.TheVariants as entry
use Rattle.mr_base.specs.declared.ids.RangeId.{RangeId}
use Rattle.mr_base.specs.declared.timestamps.Ts.{Ts}
use Rattle.range_log.specs.declared.entries.Entry.TheVariants as log
use Rattle.range_log.specs.declared.entries.Entry.{Entry}
use Rattle.range_log.specs.declared.entries.Lease.{Lease}
use Rattle.row_locality.specs.Pairs.{KeyValue}
use Rattle.row_locality.specs.Plain.{range_pairs}
use Rattle.run_laws.specs.Beginnings.{BeginsWith, IsSoundSetup, load_of}
use Rattle.run_laws.specs.Lawful.{IsLawful, IsPermitted}
use Rattle.run_words.proofs.MemberLemmas.{contains_cases, contains_first, contains_later, contains_none}
use Rattle.run_words.specs.History.{History, Made}
use Rattle.run_words.specs.Logs.{log_of}
use Rattle.run_words.specs.Ranges.{range_of}
use Rattle.run_words.specs.Setup.{Setup}

-- ---- members

pub entry_has : (x : Entry) (xs : List Entry) → Has x xs → Contains xs x
entry_has x [] k = absurd k
entry_has x (y ∷ ys) (inl e) = subst (λ (z : Entry). Contains (y ∷ ys) z) e (contains_first y ys)
entry_has x (y ∷ ys) (inr k) = contains_later y x ys (entry_has x ys k)

aux_cases : (x y : Entry) (ys seen : List Entry) → Has x ys ⊎ Has x (y ∷ seen) → Has x (y ∷ ys) ⊎ Has x seen
aux_cases x y ys seen (inl q) = inl (inr q)
aux_cases x y ys seen (inr (inl e)) = inl (inl e)
aux_cases x y ys seen (inr (inr q)) = inr q

aux_has : (x : Entry) (xs seen : List Entry) → Has x (reverse_aux xs seen) → Has x xs ⊎ Has x seen
aux_has x [] seen k = inr k
aux_has x (y ∷ ys) seen k = aux_cases x y ys seen (aux_has x ys (y ∷ seen) k)

has_aux : (x : Entry) (xs seen : List Entry) → Has x xs ⊎ Has x seen → Has x (reverse_aux xs seen)
has_aux x [] seen (inl k) = absurd k
has_aux x [] seen (inr k) = k
has_aux x (y ∷ ys) seen (inl (inl e)) = has_aux x ys (y ∷ seen) (inr (inl e))
has_aux x (y ∷ ys) seen (inl (inr k)) = has_aux x ys (y ∷ seen) (inl k)
has_aux x (y ∷ ys) seen (inr k) = has_aux x ys (y ∷ seen) (inr (inr k))

pub reversed_cases : (x : Entry) (xs : List Entry) → Has x (reverse xs) → Has x xs
reversed_cases x xs k = ⊎_elim (λ q. q) (λ q. absurd q) (aux_has x xs [] k)

-- an entry of a log is new, or stood there
pub new_or_old : (t : Bool) (e f : Entry) (old : List Entry) → Contains (cond t (e ∷ old) old) f → (e ≡ f) ⊎ Contains old f
new_or_old true e f old c = contains_cases e f old c
new_or_old false e f old c = inr c

pub new_there : (t : Bool) (e f : Entry) (old : List Entry) → Contains (cond t (e ∷ old) old) f → ((t ≡ true) × (e ≡ f)) ⊎ Contains old f
new_there true e f old c = ⊎_elim (λ q. inl (refl, q)) (λ q. inr q) (contains_cases e f old c)
new_there false e f old c = inr c

-- ---- loads

no_load : (setup : Setup) (h : History) (range : RangeId) (index : ℕ) (e : Entry) (ts : Ts) (k w : List ℕ) → IsPermitted setup h (Made (entry.Append range index e)) → e ≡ log.Load ts k w → ⊥
no_load setup h range index e ts k w p q =
    (subst (λ (x : Entry). IsPermitted setup h (Made (entry.Append range index x))) q p).order

-- each load is one with which the range began
pub loads_begin : (setup : Setup) (h : History) → IsLawful setup h → (j : RangeId) (ts : Ts) (k w : List ℕ) → Contains (log_of setup h j) (log.Load ts k w)
    → Contains (setup.beginning j) (log.Load ts k w)
loads_begin setup [] l j ts k w c = c
loads_begin setup (Made (entry.Append range index e) ∷ h) l j ts k w c =
    ⊎_elim (λ q. absurd (no_load setup h range index e ts k w l.0 q)) (λ d. loads_begin setup h l.1 j ts k w d)
    (new_or_old (range.0 == j.0) e (log.Load ts k w) (log_of setup h j) c)
loads_begin setup (x ∷ h) l j ts k w c = loads_begin setup h l.1 j ts k w c

stays : (t : Bool) (e f : Entry) (old : List Entry) → Contains old f → Contains (cond t (e ∷ old) old) f
stays true e f old c = contains_later e f old c
stays false e f old c = c

-- what the range begins with stays in its log
pub begun_in_log : (setup : Setup) (h : History) (j : RangeId) (f : Entry) → Contains (setup.beginning j) f → Contains (log_of setup h j) f
begun_in_log setup [] j f c = c
begun_in_log setup (Made (entry.Append range index e) ∷ h) j f c = stays (range.0 == j.0) e f (log_of setup h j) (begun_in_log setup h j f c)
begun_in_log setup (x ∷ h) j f c = begun_in_log setup h j f c

same_load : (changed ts : Ts) (p : KeyValue) (k w : List ℕ) → load_of changed p ≡ log.Load ts k w → (changed ≡ ts) × (p ≡ (k, w))
same_load changed ts p k w e =
    let a : changed ≡ ts = cc in
    let b : p.0 ≡ k = cc in
    let c : p.1 ≡ w = cc in
    (a, (λ i. (b i, c i)))

not_a_lease : (lease : Lease) (ts : Ts) (k w : List ℕ) → log.Lease lease ≡ log.Load ts k w → ⊥
not_a_lease lease ts k w e = cc

only_lease : (lease : Lease) (ts : Ts) (k w : List ℕ) → Has (log.Load ts k w) (log.Lease lease ∷ []) → ⊥
only_lease lease ts k w (inl e) = not_a_lease lease ts k w e
only_lease lease ts k w (inr k') = k'

module _ (setup : Setup) (j : RangeId) where
  abbrev pairs : List KeyValue
  pairs = range_pairs setup.layout setup.rows j

  load_pair : (schema : Option Ts) → BeginsWith setup j schema → (ts : Ts) (k w : List ℕ) → Contains (setup.beginning j) (log.Load ts k w) → (schema ≡ Some ts) × Has (k, w) pairs
  load_pair None b ts k w c = absurd (contains_none (log.Load ts k w) (subst (λ (l : List Entry). Contains l (log.Load ts k w)) b c))
  load_pair (Some changed) b ts k w c =
      let loads : List Entry = map (load_of changed) pairs in
      let k0 : Has (log.Load ts k w) (reverse loads ++ log.Lease b.0 ∷ []) =
      has_itself (log.Load ts k w) (reverse loads ++ log.Lease b.0 ∷ []) (subst (λ (l : List Entry). Contains l (log.Load ts k w)) b.4 c) in
      ⊎_elim
      (λ q.
      let f : (p : KeyValue) × Has p pairs × (load_of changed p ≡ log.Load ts k w) = map_has (load_of changed) pairs (log.Load ts k w) (reversed_cases (log.Load ts k w) loads q) in
      let g : (changed ≡ ts) × (f.0 ≡ (k, w)) = same_load changed ts f.0 k w f.2 in
      (ap (λ (t : Ts). Some t) g.0, subst (λ (p : KeyValue). Has p pairs) g.1 f.1))
      (λ q. absurd (only_lease b.0 ts k w q))
      (append_has (reverse loads) (log.Lease b.0 ∷ []) (log.Load ts k w) k0)

  pair_load : (schema : Option Ts) → BeginsWith setup j schema → (ts : Ts) (k w : List ℕ) → schema ≡ Some ts → Has (k, w) pairs → Contains (setup.beginning j) (log.Load ts k w)
  pair_load None b ts k w e h = absurd (cc e)
  pair_load (Some changed) b ts k w e h =
      let loads : List Entry = map (load_of changed) pairs in
      let same : changed ≡ ts = cc e in
      subst (λ (l : List Entry). Contains l (log.Load ts k w)) (sym b.4)
      (entry_has (log.Load ts k w) (reverse loads ++ log.Lease b.0 ∷ [])
      (has_first (reverse loads) (log.Lease b.0 ∷ []) (log.Load ts k w)
      (has_aux (log.Load ts k w) loads [] (inl (subst (λ (t : Ts). Has (log.Load t k w) loads) same (has_map (load_of changed) pairs (k, w) h))))))

-- the loads of a range in force are its pairs of the first rows, at the schema change
pub load_is_pair : (setup : Setup) → IsSoundSetup setup → (h : History) → IsLawful setup h → (j : RangeId) → IsSome (range_of setup h j) → (ts : Ts) (k w : List ℕ)
    → Contains (log_of setup h j) (log.Load ts k w) → (setup.schema ≡ Some ts) × Has (k, w) (range_pairs setup.layout setup.rows j)
load_is_pair setup sound h l j live ts k w c = load_pair setup j setup.schema (sound.begins j live) ts k w (loads_begin setup h l j ts k w c)

pub pair_is_load : (setup : Setup) → IsSoundSetup setup → (h : History) → (j : RangeId) → IsSome (range_of setup h j) → (ts : Ts) (k w : List ℕ)
    → setup.schema ≡ Some ts → Has (k, w) (range_pairs setup.layout setup.rows j) → Contains (log_of setup h j) (log.Load ts k w)
pair_is_load setup sound h j live ts k w e m = begun_in_log setup h j (log.Load ts k w) (pair_load setup j setup.schema (sound.begins j live) ts k w e m)
