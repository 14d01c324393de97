-- Entries in the order of their keys, by their members.
use Rattle.std.proofs.Common.{◌≡◌, Bool, true, false, cond, List, [], ◌∷◌, refl, sym, ap, subst, inl, inr}
use Rattle.std.specs.Prelude.{T, ◌&&◌, filter, Some}
use Rattle.std.specs.Cmp.{IsTotalOrder, Equal-is, tied_itself}
use Rattle.std.specs.FinMap.Entries.{find, is_sorted, below_all, same_entries}
use Rattle.std.specs.Ordering.{eq_by_cmp, is_lt}
use Rattle.std.specs.declared.cmp.Ordering.{Ordering}
use Rattle.std.specs.declared.cmp.Ordering.TheVariants.{Less, Equal, Greater}
use Rattle.answer_laws.proofs.Members.{Has}
use Rattle.answer_laws.proofs.MoreMembers.{same_some, same_option}

pub both_hold : (a b : Bool) → T a → T b → T (a && b)
both_hold true b p q = q
both_hold false b p q = p

pub first_holds : (a b : Bool) → T (a && b) → T a
first_holds true b p = tt
first_holds false b p = p

pub second_holds : (a b : Bool) → T (a && b) → T b
second_holds true b p = p
second_holds false b p = absurd p

less_of : (o : Ordering) → T (is_lt o) → o ≡ Less
less_of Less p = refl
less_of Equal p = absurd p
less_of Greater p = absurd p

pub is_less : (o : Ordering) → o ≡ Less → T (is_lt o)
is_less Less e = tt
is_less Equal e = absurd (cc)
is_less Greater e = absurd (cc)

pub tied_key : {K : Type 0} (R : K → K → Ordering) (exact : (x y : K) → R x y ≡ Equal → x ≡ y) (x y : K) → eq_by_cmp R x y ≡ true → x ≡ y
tied_key R exact x y e = exact x y ((Equal-is (R x y)).0 e)

pub ties_itself : {K : Type 0} (R : K → K → Ordering) (total : IsTotalOrder R) (x : K) → eq_by_cmp R x x ≡ true
ties_itself R total x = (Equal-is (R x x)).1 (tied_itself total x)

module _ {K X : Type 0} (R : K → K → Ordering) (total : IsTotalOrder R) (exact : (x y : K) → R x y ≡ Equal → x ≡ y) where
  found_cases : (q : K) (v : X) (e : K × X) (es : List (K × X)) (b : Bool) → eq_by_cmp R q e.0 ≡ b → (find R q es ≡ Some v → Has (q, v) es)
      → cond b (Some e.1) (find R q es) ≡ Some v → Has (q, v) (e ∷ es)
  found_cases q v e es true f h g = inl (λ i. (sym (tied_key R exact q e.0 f) i, same_some g i))
  found_cases q v e es false f h g = inr (h g)

  -- what a search finds is an entry
  pub found_entry : (q : K) (v : X) (es : List (K × X)) → find R q es ≡ Some v → Has (q, v) es
  found_entry q v [] e = absurd (cc)
  found_entry q v (x ∷ es) e = found_cases q v x es (eq_by_cmp R q x.0) refl (found_entry q v es) e

  below_member : (x q : K) (v : X) (es : List (K × X)) → T (below_all R x es) → Has (q, v) es → R x q ≡ Less
  below_member x q v [] h k = absurd k
  below_member x q v (e ∷ es) h (inl p) = subst (λ (z : K × X). R x z.0 ≡ Less) p (less_of (R x e.0) (first_holds (is_lt (R x e.0)) (below_all R x es) h))
  below_member x q v (e ∷ es) h (inr k) = below_member x q v es (second_holds (is_lt (R x e.0)) (below_all R x es) h) k

  first_found : (q : K) (v : X) (es : List (K × X)) → find R q ((q, v) ∷ es) ≡ Some v
  first_found q v es = ap (λ (b : Bool). cond b (Some v) (find R q es)) (ties_itself R total q)

  later_found : (q : K) (v : X) (e : K × X) (es : List (K × X)) (b : Bool) → eq_by_cmp R q e.0 ≡ b → R e.0 q ≡ Less → find R q es ≡ Some v → cond b (Some e.1) (find R q es) ≡ Some v
  later_found q v e es true f l g = absurd (cc (l, subst (λ (x : K). R x q ≡ Equal) (tied_key R exact q e.0 f) (tied_itself total q)))
  later_found q v e es false f l g = g

  -- each entry is found by its key
  pub entry_found : (q : K) (v : X) (es : List (K × X)) → T (is_sorted R es) → Has (q, v) es → find R q es ≡ Some v
  entry_found q v [] h k = absurd k
  entry_found q v (e ∷ es) h (inl p) = subst (λ (z : K × X). find R q (z ∷ es) ≡ Some v) (sym p) (first_found q v es)
  entry_found q v (e ∷ es) h (inr k) =
      later_found q v e es (eq_by_cmp R q e.0) refl
      (below_member e.0 q v es (first_holds (below_all R e.0 es) (is_sorted R es) h) k)
      (entry_found q v es (second_holds (below_all R e.0 es) (is_sorted R es) h) k)

  -- ---- filters

  below_cond : (x : K) (b : Bool) (e : K × X) (es : List (K × X)) → T (is_lt (R x e.0)) → T (below_all R x es) → T (below_all R x (cond b (e ∷ es) es))
  below_cond x true e es p h = both_hold (is_lt (R x e.0)) (below_all R x es) p h
  below_cond x false e es p h = h

  below_filter : (x : K) (test : K × X → Bool) (es : List (K × X)) → T (below_all R x es) → T (below_all R x (filter test es))
  below_filter x test [] h = tt
  below_filter x test (e ∷ es) h =
      below_cond x (test e) e (filter test es) (first_holds (is_lt (R x e.0)) (below_all R x es) h)
      (below_filter x test es (second_holds (is_lt (R x e.0)) (below_all R x es) h))

  sorted_cond : (b : Bool) (e : K × X) (es : List (K × X)) → T (below_all R e.0 es) → T (is_sorted R es) → T (is_sorted R (cond b (e ∷ es) es))
  sorted_cond true e es p h = both_hold (below_all R e.0 es) (is_sorted R es) p h
  sorted_cond false e es p h = h

  pub sorted_filter : (test : K × X → Bool) (es : List (K × X)) → T (is_sorted R es) → T (is_sorted R (filter test es))
  sorted_filter test [] h = tt
  sorted_filter test (e ∷ es) h =
      sorted_cond (test e) e (filter test es) (below_filter e.0 test es (first_holds (below_all R e.0 es) (is_sorted R es) h))
      (sorted_filter test es (second_holds (below_all R e.0 es) (is_sorted R es) h))

  -- ---- lists with the same members are one

  pub by_members : (es fs : List (K × X)) → T (is_sorted R es) → T (is_sorted R fs) → ((x : K × X) → Has x es → Has x fs) → ((x : K × X) → Has x fs → Has x es) → es ≡ fs
  by_members es fs g h there back =
      same_entries R total exact es fs g h
      (λ q. same_option (find R q es) (find R q fs)
      (λ v e. entry_found q v fs h (there (q, v) (found_entry q v es e)))
      (λ v e. entry_found q v es g (back (q, v) (found_entry q v fs e))))
