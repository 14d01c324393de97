-- The order of keys, and the keys of a span.
use Rattle.std.proofs.Common.{◌≡◌, ◌⊎◌, ◌<◌, ℕ, true, false, Bool, cond, List, [], ◌∷◌, Option, None, Some, filter, inl, inr, refl, subst, ap, sym, arith, ◌∙◌}
use Rattle.std.proofs.lemmas.Bool.Decides.{nat_tests}
use Rattle.std.proofs.lemmas.Cmp.{by_ranked, nat_list_cmp_total, ranked}
use Rattle.std.proofs.lemmas.Map.Keys.{sorted_head, sorted_tail}
use Rattle.std.proofs.lemmas.Map.Lookups.{exact_bytes}
use Rattle.std.proofs.lemmas.Map.Views.{IsInRange-from_range_contains, range_contains-from_IsInRange}
use Rattle.std.specs.BTreeMap.{is_at}
use Rattle.std.specs.BTreeMap.Range.{entries_between, range_contains}
use Rattle.std.specs.Cmp.Lexicographic.{slice_cmp}
use Rattle.std.specs.List.{AllByRecursion}
use Rattle.std.specs.List.Sorted.{IsStrictlySortedBy}
use Rattle.std.specs.Map.{keys_of, lookup}
use Rattle.std.specs.Prelude.{⊤}
use Rattle.std.specs.Ordering.{is_gt, is_lt, nat_cmp, ordering_reverse}
use Rattle.std.specs.declared.cmp.Ordering.{Ordering}
use Rattle.std.specs.declared.cmp.Ordering.TheVariants.{Less, Equal, Greater}
use Rattle.std.specs.declared.ops.Bound.TheVariants.{Excluded, Included}
use Rattle.mr_base.specs.Spans.{InSpan, IsKeyBelow}
use Rattle.mr_base.specs.declared.spans.Span.{Span}
use Rattle.mvcc_range.proofs.KeyLemmas.{key_or_not}
use Rattle.mvcc_range.specs.Follows.{Follows, ReplicaValue}
use Rattle.mvcc_range.specs.KeyFacts.{kept_at, state_in}
use Rattle.mvcc_range.specs.KeyValue.{KeyValue}
use Rattle.mvcc_range.specs.KeyView.{Stands}
use Rattle.mvcc_range.specs.Walks.{AllStand}
use Rattle.range_log.specs.declared.entries.Entry.{Entry}

less_when : (x y : ℕ) → x < y → nat_cmp x y ≡ Less
less_when x y h = grind (arith, nat_tests)

equal_when : (x y : ℕ) → x ≡ y → nat_cmp x y ≡ Equal
equal_when x y h = grind (arith, nat_tests)

pub key_less : (a b : List ℕ) → IsKeyBelow a b → slice_cmp nat_cmp a b ≡ Less
key_less [] [] h = absurd h
key_less [] (y ∷ ys) h = refl
key_less (x ∷ xs) [] h = absurd h
key_less (x ∷ xs) (y ∷ ys) (inl l) = rw (less_when x y l) refl
key_less (x ∷ xs) (y ∷ ys) (inr (e, h)) = rw (equal_when x y e) (key_less xs ys h)

pub less_key : (a b : List ℕ) → slice_cmp nat_cmp a b ≡ Less → IsKeyBelow a b
less_key [] [] h = cc
less_key [] (y ∷ ys) h = tt
less_key (x ∷ xs) [] h = cc
less_key (x ∷ xs) (y ∷ ys) h =
    by_ranked (x < y) (x ≡ y) (y < x) (nat_cmp x y) (ranked x y (nat_cmp x y) refl)
    (λ e l. inl l)
    (λ e l. inr (l, less_key xs ys (rw e at h)))
    (λ e l. let no : Greater ≡ Less = (rw e at h) in cc)

-- a key isn't below another exactly where the other isn't above it
pub not_gt_key : (a b : List ℕ) → ¬ IsKeyBelow b a → is_gt (slice_cmp nat_cmp a b) ≡ false
not_gt_key a b n = when (slice_cmp nat_cmp a b) refl
  where
    when : (r : Ordering) → slice_cmp nat_cmp a b ≡ r → is_gt (slice_cmp nat_cmp a b) ≡ false
    when Less e = ap is_gt e
    when Equal e = ap is_gt e
    when Greater e = absurd (n (less_key b a (nat_list_cmp_total.antisymm b a ∙ ap ordering_reverse e)))

pub key_not_gt : (a b : List ℕ) → is_gt (slice_cmp nat_cmp a b) ≡ false → ¬ IsKeyBelow b a
key_not_gt a b h l = let yes : is_gt (slice_cmp nat_cmp a b) ≡ true = ap is_gt (nat_list_cmp_total.antisymm a b ∙ ap ordering_reverse (key_less b a l)) in cc

pub key_trans : (a b c : List ℕ) → IsKeyBelow a b → IsKeyBelow b c → IsKeyBelow a c
key_trans a b c h k = less_key a c (nat_list_cmp_total.trans a b c (key_less a b h) (key_less b c k))

-- x is one of a list
abbrev pub Has : {X : Type 0} → X → List X → Type 0
Has x [] = ⊥
Has x (y ∷ ys) = (x ≡ y) ⊎ Has x ys

-- each key is below those that follow it
abbrev pub AreRising : List (List ℕ) → Type 0
AreRising [] = ⊤
AreRising (k ∷ ks) = ((q : List ℕ) → Has q ks → IsKeyBelow k q) × AreRising ks

all_less : (k : List ℕ) (ks : List (List ℕ)) → AllByRecursion (λ q. slice_cmp nat_cmp k q ≡ Less) ks → (q : List ℕ) → Has q ks → IsKeyBelow k q
all_less k [] a q h = absurd h
all_less k (x ∷ xs) a q (inl e) = less_key k q (subst (λ (y : List ℕ). slice_cmp nat_cmp k y ≡ Less) (sym e) a.0)
all_less k (x ∷ xs) a q (inr h) = all_less k xs a.1 q h

rising : (ks : List (List ℕ)) → IsStrictlySortedBy (slice_cmp nat_cmp) ks → AreRising ks
rising [] s = tt
rising (k ∷ ks) s = (all_less k ks (sorted_head (slice_cmp nat_cmp) k ks s), rising ks (sorted_tail (slice_cmp nat_cmp) k ks s))

module _ {X : Type 0} (test : List ℕ → Bool) where
  abbrev kept : List (List ℕ × X) → List (List ℕ × X)
  kept es = filter (λ e. test e.0) es

  from_kept : (es : List (List ℕ × X)) (q : List ℕ) → Has q (keys_of (kept es)) → Has q (keys_of es) × (test q ≡ true)
  from_kept [] q h = absurd h
  from_kept (e ∷ es) q h = when (λ r. from_kept es q r) (test e.0) refl h
    where
      when : (Has q (keys_of (kept es)) → Has q (keys_of es) × (test q ≡ true)) → (b : Bool) → test e.0 ≡ b → Has q (keys_of (cond b (e ∷ kept es) (kept es))) → Has q (keys_of (e ∷ es)) × (test q ≡ true)
      when go true t (inl is) = (inl is, subst (λ (y : List ℕ). test y ≡ true) (sym is) t)
      when go true t (inr r) = let rest = go r in (inr rest.0, rest.1)
      when go false t r = let rest = go r in (inr rest.0, rest.1)

  into_kept : (es : List (List ℕ × X)) (q : List ℕ) → Has q (keys_of es) → test q ≡ true → Has q (keys_of (kept es))
  into_kept [] q h t = absurd h
  into_kept (e ∷ es) q (inl is) t = rw (subst (λ (y : List ℕ). test y ≡ true) is t) (inl is)
  into_kept (e ∷ es) q (inr h) t = elim (test e.0) as (λ b. Has q (keys_of (cond b (e ∷ kept es) (kept es)))) [ true ↦ inr (into_kept es q h t) | false ↦ into_kept es q h t ]

  rising_kept : (es : List (List ℕ × X)) → AreRising (keys_of es) → AreRising (keys_of (kept es))
  rising_kept [] r = tt
  rising_kept (e ∷ es) r = elim (test e.0) as (λ b. AreRising (keys_of (cond b (e ∷ kept es) (kept es)))) [
    | true ↦ (λ q h. r.0 q (from_kept es q h).0, rising_kept es r.1)
    | false ↦ rising_kept es r.1
  ]

-- a key that is looked up with success is among the keys
found_key : {X : Type 0} (es : List (List ℕ × X)) (q : List ℕ) (x : X) → lookup (is_at (slice_cmp nat_cmp q)) es ≡ Some x → Has q (keys_of es)
found_key [] q x h = cc
found_key (e ∷ es) q x h = elim (key_or_not q e.0) as (λ _. Has q (keys_of (e ∷ es))) [
  | inl k ↦ inl k.1
  | inr k ↦ inr (found_key es q x (rw k.0 at h))
]

-- the keys of a span, in their order
pub record AreKeysOf (keys : List (List ℕ × KeyValue)) (span : Span) (ks : List (List ℕ)) : Type 0 where
  pub inside : (q : List ℕ) → Has q ks → InSpan span q
  pub whole : (q : List ℕ) → InSpan span q → Has q ks ⊎ (kept_at q keys ≡ None)
  pub order : AreRising ks

abbrev pub span_keys : Span → List (List ℕ × KeyValue) → List (List ℕ)
span_keys span keys = keys_of (entries_between (slice_cmp nat_cmp) (Included span.lo) (Excluded span.hi) keys)

pub keys_between : (keys : List (List ℕ × KeyValue)) (span : Span) → IsStrictlySortedBy (slice_cmp nat_cmp) (keys_of keys) →
    AreKeysOf keys span (span_keys span keys)
keys_between keys span sorted = record {
  inside = λ q h.
      let r = IsInRange-from_range_contains nat_list_cmp_total (Included span.lo) (Excluded span.hi) q (from_kept (range_contains (slice_cmp nat_cmp) (Included span.lo) (Excluded span.hi)) keys q h).1 in
      (key_not_gt span.lo q r.0, less_key q span.hi r.1);
  whole = λ q i. when q i (kept_at q keys) refl;
  order = rising_kept (range_contains (slice_cmp nat_cmp) (Included span.lo) (Excluded span.hi)) keys (rising (keys_of keys) sorted);
}
  where
    when : (q : List ℕ) → InSpan span q → (o : Option KeyValue) → kept_at q keys ≡ o →
        Has q (span_keys span keys) ⊎ (kept_at q keys ≡ None)
    when q i None is = inr is
    when q i (Some s) is =
        inl (into_kept (range_contains (slice_cmp nat_cmp) (Included span.lo) (Excluded span.hi)) keys q (found_key keys q s is)
        (range_contains-from_IsInRange nat_list_cmp_total (Included span.lo) (Excluded span.hi) q (not_gt_key span.lo q i.0, key_less q span.hi i.1)))

pub not_lt_key : (a b : List ℕ) → is_lt (slice_cmp nat_cmp a b) ≡ false → ¬ IsKeyBelow a b
not_lt_key a b h l = let yes : is_lt (slice_cmp nat_cmp a b) ≡ true = ap is_lt (key_less a b l) in cc

-- a replica keeps at each key what its entries say
pub follows_stand : (r : ReplicaValue) (entries : List Entry) → Follows r entries → AllStand entries r.keys
follows_stand r entries follows key = record { intent = follows.facts.intents key; versions = follows.facts.versions key }

-- what is kept at a key of the map
pub stands_at : (entries : List Entry) (keys : List (List ℕ × KeyValue)) (key : List ℕ) (s : KeyValue) → AllStand entries keys → kept_at key keys ≡ Some s → Stands entries key s
stands_at entries keys key s stand is = subst (λ (o : Option KeyValue). Stands entries key (state_in o)) is (stand key)

-- an empty span has none
pub no_keys : (keys : List (List ℕ × KeyValue)) (span : Span) → ¬ IsKeyBelow span.lo span.hi → AreKeysOf keys span []
no_keys keys span n = record {
  inside = λ q h. absurd h;
  whole = λ q i. absurd (n (below_through q i));
  order = tt;
}
  where
    below_through : (q : List ℕ) → InSpan span q → IsKeyBelow span.lo span.hi
    below_through q i = when (slice_cmp nat_cmp q span.lo) refl
      where
        when : (r : Ordering) → slice_cmp nat_cmp q span.lo ≡ r → IsKeyBelow span.lo span.hi
        when Less e = absurd (i.0 (less_key q span.lo e))
        when Equal e = subst (λ (k : List ℕ). IsKeyBelow k span.hi) (exact_bytes q span.lo e) i.1
        when Greater e = key_trans span.lo q span.hi (less_key span.lo q (nat_list_cmp_total.antisymm span.lo q ∙ ap ordering_reverse e)) i.1
