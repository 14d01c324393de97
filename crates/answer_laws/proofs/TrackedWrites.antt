-- Own writes that lead from what was held at first to what is held now.
use Rattle.std.proofs.Common.{◌≡◌, ℕ, Bool, true, false, cond, List, [], ◌∷◌, ◌++◌, refl, sym, ap, ◌∙◌, subst, inl, inr}
use Rattle.std.specs.Prelude.{⊤, T, ◌≢◌, ◌⊎◌, Option, Some, None}
use Rattle.std.specs.Cmp.{IsTotalOrder, on_total, then_total, nat_cmp_total}
use Rattle.std.specs.Cmp.Lexicographic.{nat_list_cmp_total}
use Rattle.std.specs.FinMap.Entries.{find, is_sorted, is_sorted-put, find-put}
use Rattle.std.specs.Option.{option_map_or}
use Rattle.std.specs.Ordering.{eq_by_cmp, nat_cmp}
use Rattle.std.specs.declared.cmp.Ordering.TheVariants.{Equal}
use Rattle.std.proofs.lemmas.Map.Lookups.{exact_bytes, exact_unsigned}
use Rattle.mr_base.specs.declared.ids.RangeId.{RangeId}
use Rattle.row_locality.specs.Pairs.{bytes_cmp}
use Rattle.row_locality.proofs.DatumOrder.{both_equal}
use Rattle.sql_eval.specs.OwnWrites.{OwnWrite, OwnWrites, FirstAndLast, Place, place_cmp, first_value, with_write, with_writes}
use Rattle.answer_laws.proofs.KeyedEntries.{tied_key, ties_itself}
use Rattle.answer_laws.proofs.Members.{Has, each_has}
use Rattle.answer_laws.proofs.MoreMembers.{false_true, same_some}
use Rattle.answer_laws.proofs.Pairwise.{EachTwo}

-- ---- places

pub place_total : IsTotalOrder place_cmp
place_total = then_total (on_total (λ (p : Place). p.0.0) nat_cmp_total) (on_total (λ (p : Place). p.1) nat_list_cmp_total)

pub same_number : (a b : RangeId) → a.0 ≡ b.0 → a ≡ b
same_number a b e = let number : ℕ → RangeId = λ n. record { 0 = n } in ap number e

pub place_exact : (p q : Place) → place_cmp p q ≡ Equal → p ≡ q
place_exact p q e =
    let both = both_equal (nat_cmp p.0.0 q.0.0) (bytes_cmp p.1 q.1) e in
    let range : p.0 ≡ q.0 = same_number p.0 q.0 (exact_unsigned p.0.0 q.0.0 both.0) in
    let key : p.1 ≡ q.1 = exact_bytes p.1 q.1 both.1 in
    λ i. (range i, key i)

abbrev pub place_of : OwnWrite → Place
place_of w = (w.range, w.key)

-- ---- what is held after writes

-- The value of each key of each range.
abbrev pub Held : Type 0
Held = RangeId → List ℕ → Option (List ℕ)

abbrev pub is_at : OwnWrite → Place → Bool
is_at w place = eq_by_cmp place_cmp place (place_of w)

abbrev pub written : Held → OwnWrite → Held
written now w range key = cond (is_at w (range, key)) w.after (now range key)

abbrev pub all_written : Held → List OwnWrite → Held
all_written now [] = now
all_written now (w ∷ ws) = all_written (written now w) ws

-- each write knows what was held before it
abbrev pub AreWrites : Held → List OwnWrite → Type 0
AreWrites now [] = ⊤
AreWrites now (w ∷ ws) = (w.before ≡ now w.range w.key) × AreWrites (written now w) ws

-- ---- own writes

-- own writes lead from what was held at first to what is held now
pub record Tracks (first : Held) (own : OwnWrites) (now : Held) : Type 0 where
  pub sorted : T (is_sorted place_cmp own)
  pub touched : (range : RangeId) (key : List ℕ) (x : FirstAndLast) → find place_cmp (range, key) own ≡ Some x → (x.first ≡ first range key) × (x.last ≡ now range key)
  pub others : (range : RangeId) (key : List ℕ) → find place_cmp (range, key) own ≡ None → now range key ≡ first range key

pub no_writes : (first : Held) → Tracks first [] first
no_writes first = record { sorted = tt; touched = λ range key x e. absurd (cc); others = λ range key e. refl }

pub tracked_as : (first now then : Held) (own : OwnWrites) → ((range : RangeId) (key : List ℕ) → now range key ≡ then range key) → Tracks first own now → Tracks first own then
tracked_as first now then own same t = record {
  sorted = t.sorted;
  touched = λ range key x e. let r = t.touched range key x e in (r.0, r.1 ∙ same range key);
  others = λ range key e. sym (same range key) ∙ t.others range key e;
}

first_by : (first now : Held) (w : OwnWrite) (o : Option FirstAndLast) → ((x : FirstAndLast) → o ≡ Some x → x.first ≡ first w.range w.key) → (o ≡ None → now w.range w.key ≡ first w.range w.key)
    → w.before ≡ now w.range w.key → option_map_or (λ x. x.first) o w.before ≡ first w.range w.key
first_by first now w None f g h = h ∙ g refl
first_by first now w (Some x) f g h = f x refl

first_is : (first : Held) (own : OwnWrites) (now : Held) (w : OwnWrite) → Tracks first own now → w.before ≡ now w.range w.key → first_value own w ≡ first w.range w.key
first_is first own now w t h =
    first_by first now w (find place_cmp (w.range, w.key) own) (λ x e. (t.touched w.range w.key x e).0) (t.others w.range w.key) h

abbrev last_write : OwnWrites → OwnWrite → FirstAndLast
last_write own w = record { first = first_value own w; last = w.after }

touched_by : (first : Held) (own : OwnWrites) (now : Held) (w : OwnWrite) → Tracks first own now → w.before ≡ now w.range w.key
    → (range : RangeId) (key : List ℕ) (x : FirstAndLast) (b : Bool) → is_at w (range, key) ≡ b → cond b (Some (last_write own w)) (find place_cmp (range, key) own) ≡ Some x
    → (x.first ≡ first range key) × (x.last ≡ cond b w.after (now range key))
touched_by first own now w t h range key x true f e =
    let here : (range, key) ≡ place_of w = tied_key place_cmp place_exact (range, key) (place_of w) f in
    let is : last_write own w ≡ x = same_some e in (
      sym (ap (λ (y : FirstAndLast). y.first) is) ∙ first_is first own now w t h ∙ sym (ap (λ (p : Place). first p.0 p.1) here),
      sym (ap (λ (y : FirstAndLast). y.last) is),
    )
touched_by first own now w t h range key x false f e = t.touched range key x e

others_by : (first : Held) (own : OwnWrites) (now : Held) (w : OwnWrite) → Tracks first own now
    → (range : RangeId) (key : List ℕ) (b : Bool) → cond b (Some (last_write own w)) (find place_cmp (range, key) own) ≡ None
    → cond b w.after (now range key) ≡ first range key
others_by first own now w t range key true e = absurd (cc)
others_by first own now w t range key false e = t.others range key e

pub one_tracked : (first : Held) (own : OwnWrites) (now : Held) (w : OwnWrite) → Tracks first own now → w.before ≡ now w.range w.key → Tracks first (with_write own w) (written now w)
one_tracked first own now w t h = record {
  sorted = is_sorted-put place_cmp place_total (place_of w) (last_write own w) own t.sorted;
  touched = λ range key x e. touched_by first own now w t h range key x (is_at w (range, key)) refl (sym (find-put place_cmp place_total (range, key) (place_of w) (last_write own w) own) ∙ e);
  others = λ range key e. others_by first own now w t range key (is_at w (range, key)) (sym (find-put place_cmp place_total (range, key) (place_of w) (last_write own w) own) ∙ e);
}

-- writes that know what was held are tracked
pub all_tracked : (first : Held) (own : OwnWrites) (now : Held) (ws : List OwnWrite) → Tracks first own now → AreWrites now ws → Tracks first (with_writes own ws) (all_written now ws)
unfolding with_writes
all_tracked first own now [] t h = t
all_tracked first own now (w ∷ ws) t h = all_tracked first (with_write own w) (written now w) ws (one_tracked first own now w t h.0) h.1

-- ---- writes at places of their own

abbrev pub AtOthers : OwnWrite → OwnWrite → Type 0
AtOthers w v = place_of w ≢ place_of v

kept_by : (now : Held) (w : OwnWrite) (range : RangeId) (key : List ℕ) → place_of w ≢ (range, key) → (b : Bool) → is_at w (range, key) ≡ b
    → cond b w.after (now range key) ≡ now range key
kept_by now w range key h true e = absurd (h (sym (tied_key place_cmp place_exact (range, key) (place_of w) e)))
kept_by now w range key h false e = refl

pub kept_value : (now : Held) (w : OwnWrite) (range : RangeId) (key : List ℕ) → place_of w ≢ (range, key) → written now w range key ≡ now range key
kept_value now w range key h = kept_by now w range key h (is_at w (range, key)) refl

pub own_value : (now : Held) (w : OwnWrite) → written now w w.range w.key ≡ w.after
own_value now w = ap (λ (b : Bool). cond b w.after (now w.range w.key)) (ties_itself place_cmp place_total (place_of w))

pub elsewhere : (now : Held) (ws : List OwnWrite) (range : RangeId) (key : List ℕ) → ((w : OwnWrite) → Has w ws → place_of w ≢ (range, key)) → all_written now ws range key ≡ now range key
elsewhere now [] range key h = refl
elsewhere now (w ∷ ws) range key h = elsewhere (written now w) ws range key (λ v m. h v (inr m)) ∙ kept_value now w range key (h w (inl refl))

pub there : (now : Held) (ws : List OwnWrite) (w : OwnWrite) → EachTwo AtOthers ws → Has w ws → all_written now ws w.range w.key ≡ w.after
there now [] w two h = absurd h
there now (v ∷ ws) w two (inl e) =
    elsewhere (written now v) ws w.range w.key (λ u m q. each_has (AtOthers v) u ws two.0 m (ap place_of e ∙ sym q))
    ∙ subst (λ (u : OwnWrite). written now v u.range u.key ≡ u.after) e (own_value now v)
there now (v ∷ ws) w two (inr h) = there (written now v) ws w two.1 h

-- such writes know what was held where each knows what was held before all of them
pub each_knows : (now : Held) (ws : List OwnWrite) → EachTwo AtOthers ws → ((w : OwnWrite) → Has w ws → w.before ≡ now w.range w.key) → AreWrites now ws
each_knows now [] two h = tt
each_knows now (w ∷ ws) two h =
    (h w (inl refl), each_knows (written now w) ws two.1 (λ v m. h v (inr m) ∙ sym (kept_value now w v.range v.key (each_has (AtOthers w) v ws two.0 m))))

-- one set of writes, then another
pub written_twice : (now : Held) (ws vs : List OwnWrite) → all_written now (ws ++ vs) ≡ all_written (all_written now ws) vs
written_twice now [] vs = refl
written_twice now (w ∷ ws) vs = written_twice (written now w) ws vs

pub both_know : (now : Held) (ws vs : List OwnWrite) → AreWrites now ws → AreWrites (all_written now ws) vs → AreWrites now (ws ++ vs)
both_know now [] vs h k = k
both_know now (w ∷ ws) vs h k = (h.0, both_know (written now w) ws vs h.1 k)

-- a place is that of one of the writes, or of none
at_cases : (w : OwnWrite) (ws : List OwnWrite) (place : Place) (b : Bool) → is_at w place ≡ b
    → ((v : OwnWrite) × Has v ws × (place_of v ≡ place)) ⊎ ((v : OwnWrite) → Has v ws → place_of v ≢ place)
    → ((v : OwnWrite) × Has v (w ∷ ws) × (place_of v ≡ place)) ⊎ ((v : OwnWrite) → Has v (w ∷ ws) → place_of v ≢ place)
at_cases w ws place true e h = inl (w, inl refl, sym (tied_key place_cmp place_exact place (place_of w) e))
at_cases w ws place false e (inl h) = inl (h.0, inr h.1, h.2)
at_cases w ws place false e (inr h) = inr (λ v m q. not_at v m q)
  where
    not_at : (v : OwnWrite) → Has v (w ∷ ws) → place_of v ≢ place
    not_at v (inl p) q =
        let here : place ≡ place_of w = sym (ap place_of p ∙ q) in
        let ties : is_at w place ≡ true = subst (λ (z : Place). eq_by_cmp place_cmp place z ≡ true) here (ties_itself place_cmp place_total place) in
        false_true (sym e ∙ ties)
    not_at v (inr m) q = h v m q

pub at_or_not : (ws : List OwnWrite) (place : Place) → ((v : OwnWrite) × Has v ws × (place_of v ≡ place)) ⊎ ((v : OwnWrite) → Has v ws → place_of v ≢ place)
at_or_not [] place = inr (λ v m. absurd m)
at_or_not (w ∷ ws) place = at_cases w ws place (is_at w place) refl (at_or_not ws place)
