use Rattle.std.proofs.Common.{◌≡◌, ℕ, ◌<◌, Bool, true, false, cond, List, [], ◌∷◌, inl, inr, ⊎_elim, refl, sym, ◌∙◌, subst, arith}
use Rattle.std.specs.Prelude.{◌⊎◌, ◌&&◌, ⊤, T}
use Rattle.std.specs.List.{Contains}
use Rattle.std.specs.FinMap.Entries.{below_all, is_sorted, where_key}
use Rattle.std.specs.Ordering.{is_lt}
use Rattle.mr_base.proofs.SpanLemmas.{not_below_itself}
use Rattle.mr_base.specs.Spans.{IsKeyBelow}
use Rattle.row_locality.proofs.PointLemmas.{is_below}
use Rattle.row_locality.specs.Pairs.{KeyValue, bytes_cmp}
use Rattle.run_words.proofs.MemberLemmas.{contains_cases, contains_first, contains_later, contains_none}

-- a member of a list, by recursion
abbrev pub Has : KeyValue → List KeyValue → Type 0
Has p [] = ⊥
Has p (q ∷ qs) = (q ≡ p) ⊎ Has p qs

pub has_of : (p : KeyValue) (ps : List KeyValue) → Contains ps p → Has p ps
has_of p [] c = absurd (contains_none p c)
has_of p (q ∷ qs) c = ⊎_elim (λ e. inl e) (λ d. inr (has_of p qs d)) (contains_cases q p qs c)

pub of_has : (p : KeyValue) (ps : List KeyValue) → Has p ps → Contains ps p
of_has p [] h = absurd h
of_has p (q ∷ qs) (inl e) = subst (λ (x : KeyValue). Contains (q ∷ qs) x) e (contains_first q qs)
of_has p (q ∷ qs) (inr h) = contains_later q p qs (of_has p qs h)

-- keys rise
abbrev pub AreAbove : List ℕ → List KeyValue → Type 0
AreAbove k [] = ⊤
AreAbove k (p ∷ ps) = IsKeyBelow k p.0 × AreAbove k ps

abbrev pub IsRising : List KeyValue → Type 0
IsRising [] = ⊤
IsRising (p ∷ ps) = AreAbove p.0 ps × IsRising ps

is_above : (k : List ℕ) (ps : List KeyValue) (p : KeyValue) → AreAbove k ps → Has p ps → IsKeyBelow k p.0
is_above k [] p a h = absurd h
is_above k (q ∷ qs) p a (inl e) = subst (λ (x : KeyValue). IsKeyBelow k x.0) e a.0
is_above k (q ∷ qs) p a (inr h) = is_above k qs p a.1 h

not_both_one : (x y : ℕ) (A B : Type 0) → (A → B → ⊥) → ((x < y) ⊎ ((x ≡ y) × A)) → ((y < x) ⊎ ((y ≡ x) × B)) → ⊥
not_both_one x y A B f (inl h) (inl g) = omega (arith, h, g)
not_both_one x y A B f (inl h) (inr (e, b)) = omega (arith, h, e)
not_both_one x y A B f (inr (e, a)) (inl g) = omega (arith, e, g)
not_both_one x y A B f (inr (e, a)) (inr (g, b)) = f a b

not_both : (k m : List ℕ) → IsKeyBelow k m → IsKeyBelow m k → ⊥
not_both [] [] p q = p
not_both [] (y ∷ ys) p q = q
not_both (x ∷ xs) [] p q = p
not_both (x ∷ xs) (y ∷ ys) p q = not_both_one x y (IsKeyBelow xs ys) (IsKeyBelow ys xs) (not_both xs ys) p q

first_same : (x y : KeyValue) (xs ys : List KeyValue) → AreAbove x.0 xs → AreAbove y.0 ys → (y ≡ x) ⊎ Has x ys → (x ≡ y) ⊎ Has y xs → x ≡ y
first_same x y xs ys a b (inl e) q = sym e
first_same x y xs ys a b (inr h) (inl e) = e
first_same x y xs ys a b (inr h) (inr g) = absurd (not_both x.0 y.0 (is_above x.0 xs y a g) (is_above y.0 ys x b h))

in_rest : (x y p : KeyValue) (xs ys : List KeyValue) → AreAbove x.0 xs → x ≡ y → Has p xs → (y ≡ p) ⊎ Has p ys → Has p ys
in_rest x y p xs ys a e h (inl q) =
    absurd (not_below_itself p.0 (subst (λ (z : KeyValue). IsKeyBelow z.0 p.0) (e ∙ q) (is_above x.0 xs p a h)))
in_rest x y p xs ys a e h (inr g) = g

-- two lists whose keys rise and that have the same members are the same
pub same_list : (xs ys : List KeyValue) → IsRising xs → IsRising ys → ((p : KeyValue) → Has p xs → Has p ys) → ((p : KeyValue) → Has p ys → Has p xs) → xs ≡ ys
same_list [] [] r s f g = refl
same_list [] (y ∷ ys) r s f g = absurd (g y (inl refl))
same_list (x ∷ xs) [] r s f g = absurd (f x (inl refl))
same_list (x ∷ xs) (y ∷ ys) r s f g =
    let e : x ≡ y = first_same x y xs ys r.0 s.0 (f x (inl refl)) (g y (inl refl)) in
    let rest : xs ≡ ys =
    same_list xs ys r.1 s.1 (λ p h. in_rest x y p xs ys r.0 e h (f p (inr h))) (λ p h. in_rest y x p ys xs s.0 (sym e) h (g p (inr h))) in
    λ i. e i ∷ rest i

-- what is kept by a test
kept_cases : (b : Bool) (q p : KeyValue) (ks qs : List KeyValue) (test : List ℕ → Bool) → test q.0 ≡ b → (Has p ks → Has p qs × (test p.0 ≡ true)) → Has p (cond b (q ∷ ks) ks)
    → Has p (q ∷ qs) × (test p.0 ≡ true)
kept_cases true q p ks qs test e f (inl h) = (inl h, subst (λ (x : KeyValue). test x.0 ≡ true) h e)
kept_cases true q p ks qs test e f (inr h) = (inr (f h).0, (f h).1)
kept_cases false q p ks qs test e f h = (inr (f h).0, (f h).1)

pub kept_has : (test : List ℕ → Bool) (qs : List KeyValue) (p : KeyValue) → Has p (where_key bytes_cmp test qs) → Has p qs × (test p.0 ≡ true)
kept_has test [] p h = absurd h
kept_has test (q ∷ qs) p h = kept_cases (test q.0) q p (where_key bytes_cmp test qs) qs test refl (kept_has test qs p) h

kept_more : (b : Bool) (q p : KeyValue) (ks : List KeyValue) → Has p ks → Has p (cond b (q ∷ ks) ks)
kept_more true q p ks h = inr h
kept_more false q p ks h = h

pub has_kept : (test : List ℕ → Bool) (qs : List KeyValue) (p : KeyValue) → Has p qs → test p.0 ≡ true → Has p (where_key bytes_cmp test qs)
has_kept test [] p h e = absurd h
has_kept test (q ∷ qs) p (inl h) e =
    subst (λ (b : Bool). Has p (cond b (q ∷ where_key bytes_cmp test qs) (where_key bytes_cmp test qs))) (sym (subst (λ (x : KeyValue). test x.0 ≡ true) (sym h) e)) (inl h)
has_kept test (q ∷ qs) p (inr h) e = kept_more (test q.0) q p (where_key bytes_cmp test qs) (has_kept test qs p h e)

above_kept : (b : Bool) (k : List ℕ) (q : KeyValue) (ks : List KeyValue) → IsKeyBelow k q.0 → AreAbove k ks → AreAbove k (cond b (q ∷ ks) ks)
above_kept true k q ks h a = (h, a)
above_kept false k q ks h a = a

still_above : (test : List ℕ → Bool) (k : List ℕ) (qs : List KeyValue) → AreAbove k qs → AreAbove k (where_key bytes_cmp test qs)
still_above test k [] a = tt
still_above test k (q ∷ qs) a = above_kept (test q.0) k q (where_key bytes_cmp test qs) a.0 (still_above test k qs a.1)

rising_kept : (b : Bool) (q : KeyValue) (ks : List KeyValue) → AreAbove q.0 ks → IsRising ks → IsRising (cond b (q ∷ ks) ks)
rising_kept true q ks a r = (a, r)
rising_kept false q ks a r = r

pub still_rising : (test : List ℕ → Bool) (qs : List KeyValue) → IsRising qs → IsRising (where_key bytes_cmp test qs)
still_rising test [] r = tt
still_rising test (q ∷ qs) r = rising_kept (test q.0) q (where_key bytes_cmp test qs) (still_above test q.0 qs r.0) (still_rising test qs r.1)

-- sorted by the test, and by pairs
first : (a b : Bool) → T (a && b) → T a
first true b p = tt
first false b p = p

second : (a b : Bool) → T (a && b) → T b
second true b p = p
second false b p = absurd p

is_true : (b : Bool) → T b → b ≡ true
is_true true p = refl
is_true false p = absurd p

above_by_test : (k : List ℕ) (ps : List KeyValue) → T (below_all bytes_cmp k ps) → AreAbove k ps
above_by_test k [] h = tt
above_by_test k (p ∷ ps) h =
    ((is_below k p.0).0 (is_true (is_lt (bytes_cmp k p.0)) (first (is_lt (bytes_cmp k p.0)) _ h)), above_by_test k ps (second (is_lt (bytes_cmp k p.0)) _ h))

pub rising_by_test : (ps : List KeyValue) → T (is_sorted bytes_cmp ps) → IsRising ps
rising_by_test [] h = tt
rising_by_test (p ∷ ps) h = (above_by_test p.0 ps (first (below_all bytes_cmp p.0 ps) _ h), rising_by_test ps (second (below_all bytes_cmp p.0 ps) _ h))
