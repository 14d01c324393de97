-- Entries put into others, one after the other: the later of two with one key stands.
use Rattle.std.proofs.Common.{◌≡◌, ℕ, Bool, true, false, cond, List, [], ◌∷◌, refl, sym, ap, ◌∙◌, subst, inl, inr}
use Rattle.std.specs.Prelude.{T, ◌⊎◌, Option, Some, None}
use Rattle.std.specs.Cmp.{Equal-is, tied_itself}
use Rattle.std.specs.Cmp.Lexicographic.{nat_list_cmp_total}
use Rattle.std.specs.FinMap.Entries.{put, find, is_sorted, is_sorted-put, find-put}
use Rattle.std.specs.Option.{option_or}
use Rattle.std.specs.Ordering.{eq_by_cmp}
use Rattle.std.specs.declared.cmp.Ordering.TheVariants.{Equal}
use Rattle.std.proofs.lemmas.Map.Lookups.{exact_bytes}
use Rattle.mr_base.specs.declared.ids.RangeId.{RangeId}
use Rattle.row_locality.specs.Pairs.{bytes_cmp, put_all}
use Rattle.row_locality.specs.Plain.{Layout, PlainDatabase, pairs_of_rows, range_pairs}
use Rattle.sql_eval.specs.Agreement.{range_value}
use Rattle.answer_laws.proofs.Members.{Has}
use Rattle.answer_laws.proofs.MoreMembers.{or_none}

module _ {X : Type 0} where
  pub sorted_all : (ps es : List (List ℕ × X)) → T (is_sorted bytes_cmp es) → T (is_sorted bytes_cmp (put_all ps es))
  sorted_all [] es h = h
  sorted_all (p ∷ ps) es h = sorted_all ps (put bytes_cmp p.0 p.1 es) (is_sorted-put bytes_cmp nat_list_cmp_total p.0 p.1 es h)

  -- the value of the last entry of this key
  abbrev pub last_of : List ℕ → List (List ℕ × X) → Option X
  last_of q [] = None
  last_of q (p ∷ ps) = option_or (last_of q ps) (cond (eq_by_cmp bytes_cmp q p.0) (Some p.1) None)

  or_regroup : (o : Option X) (b : Bool) (v : X) (r : Option X) → option_or o (cond b (Some v) r) ≡ option_or (option_or o (cond b (Some v) None)) r
  or_regroup None true v r = refl
  or_regroup None false v r = refl
  or_regroup (Some x) true v r = refl
  or_regroup (Some x) false v r = refl

  pub find_all : (q : List ℕ) (ps es : List (List ℕ × X)) → find bytes_cmp q (put_all ps es) ≡ option_or (last_of q ps) (find bytes_cmp q es)
  find_all q [] es = refl
  find_all q (p ∷ ps) es =
      find_all q ps (put bytes_cmp p.0 p.1 es)
      ∙ ap (option_or (last_of q ps)) (find-put bytes_cmp nat_list_cmp_total q p.0 p.1 es)
      ∙ or_regroup (last_of q ps) (eq_by_cmp bytes_cmp q p.0) p.1 (find bytes_cmp q es)

  same_entry : (q : List ℕ) (p : List ℕ × X) (v : X) → eq_by_cmp bytes_cmp q p.0 ≡ true → p.1 ≡ v → p ≡ (q, v)
  same_entry q p v e f =
      let k : p.0 ≡ q = sym (exact_bytes q p.0 ((Equal-is (bytes_cmp q p.0)).0 e)) in
      λ i. (k i, f i)

  here_cases : (q : List ℕ) (p : List ℕ × X) (v : X) (b : Bool) → eq_by_cmp bytes_cmp q p.0 ≡ b → cond b (Some p.1) None ≡ Some v → p ≡ (q, v)
  here_cases q p v true e f = same_entry q p v e (same_some f)
    where
      same_some : {a b : X} → Some a ≡ Some b → a ≡ b
      same_some g = cc
  here_cases q p v false e f = absurd (cc)

  last_cases : (q : List ℕ) (p : List ℕ × X) (ps : List (List ℕ × X)) (v : X) (o : Option X) → (o ≡ Some v → Has (q, v) ps)
      → option_or o (cond (eq_by_cmp bytes_cmp q p.0) (Some p.1) None) ≡ Some v → Has (q, v) (p ∷ ps)
  last_cases q p ps v None h e = inl (here_cases q p v (eq_by_cmp bytes_cmp q p.0) refl e)
  last_cases q p ps v (Some w) h e = inr (h e)

  -- the last entry of a key is an entry
  pub last_has : (q : List ℕ) (ps : List (List ℕ × X)) (v : X) → last_of q ps ≡ Some v → Has (q, v) ps
  last_has q [] v e = absurd (cc)
  last_has q (p ∷ ps) v e = last_cases q p ps v (last_of q ps) (last_has q ps v) e

  some_or : (o r : Option X) → ((w : X) × (o ≡ Some w)) ⊎ ((w : X) × (r ≡ Some w)) → (w : X) × (option_or o r ≡ Some w)
  some_or None r (inl h) = absurd (cc h.1)
  some_or None r (inr h) = h
  some_or (Some x) r h = (x, refl)

  -- a key with an entry has a last one
  pub has_last : (q : List ℕ) (ps : List (List ℕ × X)) (v : X) → Has (q, v) ps → (w : X) × (last_of q ps ≡ Some w)
  has_last q [] v h = absurd h
  has_last q (p ∷ ps) v (inl e) =
      let same : eq_by_cmp bytes_cmp q p.0 ≡ true = (Equal-is (bytes_cmp q p.0)).1 (subst (λ (k : List ℕ). bytes_cmp q k ≡ Equal) (sym (ap (λ (x : List ℕ × X). x.0) e)) (tied_itself nat_list_cmp_total q)) in
      some_or (last_of q ps) _ (inr (p.1, ap (λ (b : Bool). cond b (Some p.1) None) same))
  has_last q (p ∷ ps) v (inr h) = some_or (last_of q ps) _ (inl (has_last q ps v h))

-- what a range holds stands in the order of its keys
pub range_sorted : (l : Layout) (d : PlainDatabase) (range : RangeId) → T (is_sorted bytes_cmp (range_pairs l d range))
unfolding range_pairs
range_sorted l d range = sorted_all (pairs_of_rows l d range) [] tt

-- the value of a key of a range is that of the last pair of its rows
pub range_value_is : (l : Layout) (d : PlainDatabase) (range : RangeId) (key : List ℕ) → range_value l d range key ≡ last_of key (pairs_of_rows l d range)
unfolding range_pairs
range_value_is l d range key = find_all key (pairs_of_rows l d range) [] ∙ or_none (last_of key (pairs_of_rows l d range))

-- a value of a key is of a pair of a row that lives in the range
pub held_pair : (l : Layout) (d : PlainDatabase) (range : RangeId) (key value : List ℕ) → range_value l d range key ≡ Some value
    → Has (key, value) (pairs_of_rows l d range)
held_pair l d range key value e = last_has key (pairs_of_rows l d range) value (sym (range_value_is l d range key) ∙ e)

-- a key of which a row that lives in the range has a pair is held
pub pair_held : (l : Layout) (d : PlainDatabase) (range : RangeId) (key value : List ℕ) → Has (key, value) (pairs_of_rows l d range)
    → (other : List ℕ) × (range_value l d range key ≡ Some other)
pair_held l d range key value h =
    let r : (w : List ℕ) × (last_of key (pairs_of_rows l d range) ≡ Some w) = has_last key (pairs_of_rows l d range) value h in
    (r.0, range_value_is l d range key ∙ r.1)
