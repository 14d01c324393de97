use Rattle.std.proofs.Common.{◌≡◌, ◌≢◌, ℕ, List, [], map, inl, inr, refl, sym, ◌∙◌, subst}
use Rattle.std.specs.Prelude.{◌⊎◌, ◌↔◌, IsSome, Option, Some, None}
use Rattle.std.specs.List.{Contains}
use Rattle.std.specs.Cmp.Lexicographic.{nat_list_cmp_total}
use Rattle.std.proofs.lemmas.Map.Lookups.{exact_bytes}
use Rattle.answer_laws.proofs.HeldPairs.{Lives, value_lives}
use Rattle.answer_laws.proofs.KeyedEntries.{entry_found, found_entry}
use Rattle.answer_laws.proofs.Members.{Has, has_itself}
use Rattle.answer_laws.proofs.MoreMembers.{has_map, map_has}
use Rattle.answer_laws.proofs.PutAll.{range_sorted}
use Rattle.mr_base.specs.Timestamps.{IsBelow}
use Rattle.mr_base.specs.declared.ids.AttemptId.{AttemptId}
use Rattle.mr_base.specs.declared.ids.RangeId.{RangeId}
use Rattle.mr_base.specs.declared.spans.Write.{Write}
use Rattle.mr_base.specs.declared.timestamps.Ts.{Ts}
use Rattle.row_locality.specs.Pairs.{bytes_cmp}
use Rattle.row_locality.specs.Plain.{PlainDatabase, range_pairs}
use Rattle.run_laws.specs.Beginnings.{AreRowsAt, IsSoundSetup}
use Rattle.run_laws.specs.DeterminedAnswers.{write_of}
use Rattle.run_laws.specs.Held.{IsHeld, IsWritten}
use Rattle.run_laws.specs.Lawful.{IsLawful}
use Rattle.run_laws.specs.Serial.{IsInPart}
use Rattle.run_words.proofs.MemberLemmas.{contains_none}
use Rattle.run_words.specs.History.{History}
use Rattle.run_words.specs.Puts.{CommitMade, PutMade, commit}
use Rattle.run_words.specs.Ranges.{range_of}
use Rattle.run_words.specs.Setup.{Setup}
use Rattle.sql_eval.specs.Agreement.{AreChanges, IsChange, range_value}
use Rattle.serial_runs.proofs.Equal.{value_or}
use Rattle.serial_runs.proofs.Heard.{contained}
use Rattle.serial_runs.proofs.Loads.{load_is_pair, pair_is_load}
use Rattle.serial_runs.proofs.Numbers.{some_same}
use Rattle.serial_runs.proofs.TsOrder.{below_trans, not_itself}

-- the ranges in force hold a database below a timestamp
abbrev pub HoldsBelow : Setup → History → PlainDatabase → Ts → Type 0
HoldsBelow setup h D ts =
    (j : RangeId) → IsSome (range_of setup h j) → (k v : List ℕ) → (range_value setup.layout D j k ≡ Some v) ↔ IsHeld setup h j ts k v

-- the values of a range as its pairs
pub value_pair : (setup : Setup) (D : PlainDatabase) (j : RangeId) (k v : List ℕ) → range_value setup.layout D j k ≡ Some v → Has (k, v) (range_pairs setup.layout D j)
value_pair setup D j k v e = found_entry bytes_cmp nat_list_cmp_total exact_bytes k v (range_pairs setup.layout D j) e

pub pair_value : (setup : Setup) (D : PlainDatabase) (j : RangeId) (k v : List ℕ) → Has (k, v) (range_pairs setup.layout D j) → range_value setup.layout D j k ≡ Some v
pair_value setup D j k v m =
    entry_found bytes_cmp nat_list_cmp_total exact_bytes k v (range_pairs setup.layout D j) (range_sorted setup.layout D j) m

-- ---- nothing changes

unchanged : (setup : Setup) (D E : PlainDatabase) → AreChanges setup.layout D E [] → (j : RangeId) (k : List ℕ) → range_value setup.layout E j k ≡ range_value setup.layout D j k
unchanged setup D E ch j k = by (value_or (range_value setup.layout D j k) (range_value setup.layout E j k))
  where
    by : (range_value setup.layout D j k ≡ range_value setup.layout E j k) ⊎ (range_value setup.layout D j k ≢ range_value setup.layout E j k)
        → range_value setup.layout E j k ≡ range_value setup.layout D j k
    by (inl e) = sym e
    by (inr n) =
        let w : Write = record { range = j; key = k; value = range_value setup.layout E j k } in
        absurd (contains_none w ((ch w).0 (record { becomes = refl; was_other = n })))

pub unchanged_holds : (setup : Setup) (h : History) (D E : PlainDatabase) (ts : Ts) → AreChanges setup.layout D E [] → HoldsBelow setup h D ts → HoldsBelow setup h E ts
unchanged_holds setup h D E ts ch old j live k v =
    ((λ e. (old j live k v).0 (sym (unchanged setup D E ch j k) ∙ e)), (λ x. unchanged setup D E ch j k ∙ (old j live k v).1 x))

-- ---- the puts of a commit

-- a put at a key, among others
abbrev pub PutAt : List PutMade → RangeId → List ℕ → Option (List ℕ) → Type 0
PutAt ps j k v = (p : PutMade) × Contains ps p × (p.range ≡ j) × (p.key ≡ k) × (p.value ≡ v)

module _ (setup : Setup) (h : History) (ps : List PutMade) (c ts : Ts) (D E : PlainDatabase) (ch : AreChanges setup.layout D E (map write_of ps))
    (own : (p : PutMade) → Contains ps p → IsWritten setup h p.range p.key c p.value) (old : HoldsBelow setup h D c) (below : IsBelow c ts)
    (cases : (j : RangeId) → IsSome (range_of setup h j) → (k : List ℕ) (other : Ts) (v : Option (List ℕ)) → IsWritten setup h j k other v → IsBelow other ts
    → IsBelow other c ⊎ ((other ≡ c) × PutAt ps j k v)) where
  put_written : (j : RangeId) (k : List ℕ) (v : Option (List ℕ)) → Contains (map write_of ps) (record { range = j; key = k; value = v }) → IsWritten setup h j k c v
  put_written j k v m =
      let w : Write = record { range = j; key = k; value = v } in
      let f : (p : PutMade) × Has p ps × (write_of p ≡ w) = map_has write_of ps w (has_itself w (map write_of ps) m) in
      subst (λ (x : Write). IsWritten setup h x.range x.key c x.value) f.2 (own f.0 (contained f.0 ps f.1))

  changed_at : (j : RangeId) (k : List ℕ) (p : PutMade) → Contains ps p → p.range ≡ j → p.key ≡ k → IsChange setup.layout D E (record { range = j; key = k; value = p.value })
  changed_at j k p m q r =
      let there : Contains (map write_of ps) (write_of p) = contained (write_of p) (map write_of ps) (has_map write_of ps p (has_itself p ps m)) in
      let same : write_of p ≡ record { range = j; key = k; value = p.value } = λ i. record { range = q i; key = r i; value = p.value } in
      subst (λ (x : Write). IsChange setup.layout D E x) same ((ch (write_of p)).1 there)

  abbrev value_of : PlainDatabase → RangeId → List ℕ → Option (List ℕ)
  value_of d j k = range_value setup.layout d j k

  differs : (j : RangeId) (k : List ℕ) → value_of D j k ≢ value_of E j k → IsWritten setup h j k c (value_of E j k)
  differs j k n =
      put_written j k (value_of E j k) ((ch (record { range = j; key = k; value = value_of E j k })).0 (record { becomes = refl; was_other = n }))

  not_late : (j : RangeId) → IsSome (range_of setup h j) → (k : List ℕ) (other : Ts) (v : Option (List ℕ)) → IsWritten setup h j k other v → IsBelow other ts → ¬ IsBelow c other
  not_late j live k other v w l late = by (cases j live k other v w l)
    where
      by : IsBelow other c ⊎ ((other ≡ c) × PutAt ps j k v) → ⊥
      by (inl q) = not_itself c (below_trans c other c late q)
      by (inr q) = not_itself c (subst (λ (t : Ts). IsBelow c t) q.0 late)

  same_last : (j : RangeId) → IsSome (range_of setup h j) → (k v : List ℕ) → value_of D j k ≡ value_of E j k → (x : IsHeld setup h j c k v)
      → (other : Ts) (u : Option (List ℕ)) → IsWritten setup h j k other u → IsBelow other ts → ¬ IsBelow x.ts other
  same_last j live k v same x other u w l late = by (cases j live k other u w l)
    where
      by : IsBelow other c ⊎ ((other ≡ c) × PutAt ps j k u) → ⊥
      by (inl q) = x.last other u w q late
      by (inr (q, (p, m, r, s, t))) =
          let change : IsChange setup.layout D E (record { range = j; key = k; value = p.value }) = changed_at j k p m r s in
          change.was_other (same ∙ change.becomes)

  forth_by : (j : RangeId) → IsSome (range_of setup h j) → (k v : List ℕ) → value_of E j k ≡ Some v → (value_of D j k ≡ value_of E j k) ⊎ (value_of D j k ≢ value_of E j k)
      → IsHeld setup h j ts k v
  forth_by j live k v e (inl same) =
      let x : IsHeld setup h j c k v = (old j live k v).0 (same ∙ e) in
      record { ts = x.ts; written = x.written; is_below = below_trans x.ts c ts x.is_below below; last = same_last j live k v same x }
  forth_by j live k v e (inr n) =
      record {
        ts = c;
        written = subst (λ (u : Option (List ℕ)). IsWritten setup h j k c u) e (differs j k n);
        is_below = below;
        last = not_late j live k;
      }

  back_same : (j : RangeId) → IsSome (range_of setup h j) → (k v : List ℕ) → (x : IsHeld setup h j ts k v) → IsBelow x.ts c → (value_of D j k ≡ value_of E j k) ⊎ (value_of D j k ≢ value_of E j k)
      → value_of E j k ≡ Some v
  back_same j live k v x low (inl same) =
      sym same
      ∙ (old j live k v).1 (record { ts = x.ts; written = x.written; is_below = low; last = λ other u w l late. x.last other u w (below_trans other c ts l below) late })
  back_same j live k v x low (inr n) = absurd (x.last c (value_of E j k) (differs j k n) below low)

  back_by : (j : RangeId) → IsSome (range_of setup h j) → (k v : List ℕ) → (x : IsHeld setup h j ts k v) → IsBelow x.ts c ⊎ ((x.ts ≡ c) × PutAt ps j k (Some v))
      → value_of E j k ≡ Some v
  back_by j live k v x (inl low) = back_same j live k v x low (value_or (value_of D j k) (value_of E j k))
  back_by j live k v x (inr (q, (p, m, r, s, t))) = (changed_at j k p m r s).becomes ∙ t

  -- what is held above the commit is the database with its puts
  pub commit_holds : HoldsBelow setup h E ts
  commit_holds j live k v = (
    (λ e. forth_by j live k v e (value_or (value_of D j k) (value_of E j k))),
    (λ x. back_by j live k v x (cases j live k x.ts (Some v) x.written x.is_below)),
  )

-- ---- the first rows

module _ (setup : Setup) (sound : IsSoundSetup setup) (h : History) (lawful : IsLawful setup h) (ts : Ts) (part : IsInPart setup ts)
    (none : (a : AttemptId) (made : CommitMade) → commit h a ≡ Some made → IsBelow made.ts ts → ⊥) where
  no_rows : setup.schema ≡ None → (j : RangeId) (k v : List ℕ) → range_value setup.layout setup.rows j k ≡ Some v → ⊥
  no_rows e j k v f =
      let x : Lives setup.layout setup.rows j (k, v) = value_lives setup.layout setup.rows j k v f in
      subst (λ rows. Has x.in_table.row rows) ((subst (λ (o : Option Ts). AreRowsAt setup o) e sound.at) x.place) x.in_table.there

  loaded_held : (changed : Ts) → setup.schema ≡ Some changed → (j : RangeId) → IsSome (range_of setup h j) → (k v : List ℕ) → range_value setup.layout setup.rows j k ≡ Some v
      → IsHeld setup h j ts k v
  loaded_held changed e j live k v f =
      record {
        ts = changed;
        written = inl (v, pair_is_load setup sound h j live changed k v e (value_pair setup setup.rows j k v f), refl);
        is_below = part changed e;
        last = λ other u w l late. not_later other u w l late;
      }
    where
      not_later : (other : Ts) (u : Option (List ℕ)) → IsWritten setup h j k other u → IsBelow other ts → ¬ IsBelow changed other
      not_later other u (inl (x, load, q)) l late =
          not_itself changed (subst (λ (t : Ts). IsBelow changed t) (some_same (sym (load_is_pair setup sound h lawful j live other k x load).0 ∙ e)) late)
      not_later other u (inr (a, made, put, c, t, among, at_range, at_key, at_value)) l late = none a made c (subst (λ (z : Ts). IsBelow z ts) (sym t) l)

  rows_forth : (schema : Option Ts) → setup.schema ≡ schema → (j : RangeId) → IsSome (range_of setup h j) → (k v : List ℕ) → range_value setup.layout setup.rows j k ≡ Some v
      → IsHeld setup h j ts k v
  rows_forth None e j live k v f = absurd (no_rows e j k v f)
  rows_forth (Some changed) e j live k v f = loaded_held changed e j live k v f

  rows_back : (j : RangeId) → IsSome (range_of setup h j) → (k v : List ℕ) (at : Ts) → IsWritten setup h j k at (Some v) → IsBelow at ts → range_value setup.layout setup.rows j k ≡ Some v
  rows_back j live k v at (inl (x, load, q)) l = pair_value setup setup.rows j k x (load_is_pair setup sound h lawful j live at k x load).1 ∙ sym q
  rows_back j live k v at (inr (a, made, put, c, t, among, at_range, at_key, at_value)) l = absurd (none a made c (subst (λ (z : Ts). IsBelow z ts) (sym t) l))

  -- below all commits the ranges hold the first rows
  pub rows_hold : HoldsBelow setup h setup.rows ts
  rows_hold j live k v =
      ((λ e. rows_forth setup.schema refl j live k v e), (λ x. rows_back j live k v x.ts x.written x.is_below))
