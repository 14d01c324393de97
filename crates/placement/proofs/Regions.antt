use Rattle.std.proofs.Common.{◌≡◌, ◌≢◌, ℕ, suc, ◌<◌, List, [], ◌∷◌, length, Bool, true, false, not, refl, ap, sym, ◌∙◌, subst, inl, inr, arith}
use Rattle.std.specs.Prelude.{map, filter, slice_get, Option, Some, None}
use Rattle.std.specs.List.{cons_option}
use Rattle.std.specs.Str.{bytes_eq}
use Rattle.std.proofs.lemmas.Slice.Eq.{bytes_eq-Decides}
use Rattle.mr_base.specs.declared.ids.NodeId.{NodeId}
use Rattle.mr_base.specs.declared.nodes.NodeInfo.{NodeInfo}
use Rattle.placement.specs.Placing.{each_at, in_region, one_per_zone}
use Rattle.placement.proofs.Lists.{Has, Pairs, filter_has, has_filter, has_map, has_option, has_slice_get, map_has, pairs_filter}

no_true : (b : Bool) → (b ≡ true → ⊥) → b ≡ false
no_true true h = absurd (h refl)
no_true false h = refl

pub same_bytes : (a b : List ℕ) → bytes_eq a b ≡ true → a ≡ b
same_bytes a b e = (bytes_eq-Decides a b).0 e

pub bytes_same : (a b : List ℕ) → a ≡ b → bytes_eq a b ≡ true
bytes_same a b e = (bytes_eq-Decides a b).1 e

pub bytes_differ : (a b : List ℕ) → a ≢ b → bytes_eq a b ≡ false
bytes_differ a b ne = no_true (bytes_eq a b) (λ e. ne (same_bytes a b e))

pub differ_bytes : (a b : List ℕ) → not (bytes_eq a b) ≡ true → a ≢ b
differ_bytes a b e s = let yes = bytes_same a b s in cc (ap not yes)

pub in_region_has : (r : List ℕ) (nodes : List NodeInfo) (s : NodeInfo) → Has (in_region r nodes) s → Has nodes s × (s.region ≡ r)
in_region_has r nodes s h = let found = has_filter (λ t. bytes_eq t.region r) nodes s h in (found.0, same_bytes s.region r found.1)

pub has_in_region : (r : List ℕ) (nodes : List NodeInfo) (s : NodeInfo) → Has nodes s → s.region ≡ r → Has (in_region r nodes) s
has_in_region r nodes s h e = filter_has (λ t. bytes_eq t.region r) nodes s h (bytes_same s.region r e)

-- ---- the first node of each zone

pub zone_has : (xs : List NodeInfo) (s : NodeInfo) → Has (one_per_zone xs) s → Has xs s
zone_has [] s h = absurd h
zone_has (x ∷ xs) s (inl e) = inl e
zone_has (x ∷ xs) s (inr k) = inr (zone_has xs s (has_filter (λ t. not (bytes_eq x.zone t.zone)) (one_per_zone xs) s k).0)

pub zones_differ : (xs : List NodeInfo) → Pairs (λ s t. s.zone ≢ t.zone) (one_per_zone xs)
zones_differ [] = tt
zones_differ (x ∷ xs) = (
  λ y k. differ_bytes x.zone y.zone (has_filter (λ t. not (bytes_eq x.zone t.zone)) (one_per_zone xs) y k).1,
  pairs_filter (λ s t. s.zone ≢ t.zone) (λ t. not (bytes_eq x.zone t.zone)) (one_per_zone xs) (zones_differ xs),
)

zone_kept : (x : NodeInfo) (xs : List NodeInfo) (zone : List ℕ) (b : Bool) → bytes_eq x.zone zone ≡ b → Has (map (λ (t : NodeInfo). t.zone) (one_per_zone xs)) zone → Has (map (λ (t : NodeInfo). t.zone) (one_per_zone (x ∷ xs))) zone
zone_kept x xs zone true e h = inl (same_bytes x.zone zone e)
zone_kept x xs zone false e h =
    let found = map_has (λ (t : NodeInfo). t.zone) (one_per_zone xs) zone h in
    let other : bytes_eq x.zone found.0.zone ≡ false = ap (bytes_eq x.zone) found.2 ∙ e in
    let kept = filter_has (λ t. not (bytes_eq x.zone t.zone)) (one_per_zone xs) found.0 found.1 (ap not other) in
    let P : List ℕ → Type 0 = λ z. Has (map (λ (t : NodeInfo). t.zone) (filter (λ t. not (bytes_eq x.zone t.zone)) (one_per_zone xs))) z in
    inr (subst P found.2 (has_map (λ (t : NodeInfo). t.zone) (filter (λ t. not (bytes_eq x.zone t.zone)) (one_per_zone xs)) found.0 kept))

pub each_zone : (xs : List NodeInfo) (s : NodeInfo) → Has xs s → Has (map (λ (t : NodeInfo). t.zone) (one_per_zone xs)) s.zone
each_zone [] s h = absurd h
each_zone (x ∷ xs) s (inl e) = inl (ap (λ (t : NodeInfo). t.zone) e)
each_zone (x ∷ xs) s (inr k) = zone_kept x xs s.zone (bytes_eq x.zone s.zone) refl (each_zone xs s k)

-- ---- the node at a place of each region

pub each_at_has : (k : ℕ) (nodes : List NodeInfo) (rs : List (List ℕ)) (s : NodeInfo) → Has (each_at k nodes rs) s → (r : List ℕ) × Has rs r × (slice_get (in_region r nodes) k ≡ Some s)
each_at_has k nodes [] s h = absurd h
each_at_has k nodes (r ∷ rs) s h = elim (has_option (slice_get (in_region r nodes) k) (each_at k nodes rs) s h)
    [ inl e ↦ (r, inl refl, e) | inr more ↦ (let found = each_at_has k nodes rs s more in (found.0, inr found.1, found.2)) ]

pub each_at_in : (k : ℕ) (nodes : List NodeInfo) (rs : List (List ℕ)) (s : NodeInfo) → Has (each_at k nodes rs) s → Has nodes s × Has rs s.region
each_at_in k nodes rs s h =
    let found = each_at_has k nodes rs s h in
    let here = in_region_has found.0 nodes s (has_slice_get (in_region found.0 nodes) k s found.2) in
    let P : List ℕ → Type 0 = λ r. Has rs r in
    (here.0, subst P (sym here.1) found.1)

first_of : {A : Type 0} (xs : List A) (x : A) → Has xs x → (s : A) × (slice_get xs 0 ≡ Some s)
first_of [] x h = absurd h
first_of (y ∷ ys) x h = (y, refl)

-- a region that has a node has a lowest one
lowest_of : (nodes : List NodeInfo) (r : List ℕ) → Has (map (λ (t : NodeInfo). t.region) nodes) r → (s : NodeInfo) × (slice_get (in_region r nodes) 0 ≡ Some s)
lowest_of nodes r h =
    let found = map_has (λ (t : NodeInfo). t.region) nodes r h in
    first_of (in_region r nodes) found.0 (has_in_region r nodes found.0 found.1 found.2)

pub length_each_lowest : (nodes : List NodeInfo) (rs : List (List ℕ)) → ((r : List ℕ) → Has rs r → Has (map (λ (t : NodeInfo). t.region) nodes) r) → length (each_at 0 nodes rs) ≡ length rs
length_each_lowest nodes [] h = refl
length_each_lowest nodes (r ∷ rs) h =
    ap (λ o. length (cons_option o (each_at 0 nodes rs))) (lowest_of nodes r (h r (inl refl))).1
    ∙ ap suc (length_each_lowest nodes rs (λ x k. h x (inr k)))

option_has : {A : Type 0} (o : Option A) (xs : List A) (x : A) → o ≡ Some x → Has (cons_option o xs) x
option_has None xs x e = cc
option_has (Some y) xs x e = inl cc

rest_has : {A : Type 0} (o : Option A) (xs : List A) (x : A) → Has xs x → Has (cons_option o xs) x
rest_has None xs x h = h
rest_has (Some y) xs x h = inr h

pub lowest_has : (nodes : List NodeInfo) (rs : List (List ℕ)) (r : List ℕ) → Has rs r → Has (map (λ (t : NodeInfo). t.region) nodes) r → (s : NodeInfo) × Has (each_at 0 nodes rs) s × (s.region ≡ r)
lowest_has nodes [] r h n = absurd h
lowest_has nodes (q ∷ rs) r (inl e) n =
    let P : List ℕ → Type 0 = λ z. Has (map (λ (t : NodeInfo). t.region) nodes) z in
    let found = lowest_of nodes q (subst P (sym e) n) in (
      found.0,
      option_has (slice_get (in_region q nodes) 0) (each_at 0 nodes rs) found.0 found.1,
      (in_region_has q nodes found.0 (has_slice_get (in_region q nodes) 0 found.0 found.1)).1 ∙ e,
    )
lowest_has nodes (q ∷ rs) r (inr k) n =
    let found = lowest_has nodes rs r k n in
    (found.0, rest_has (slice_get (in_region q nodes) 0) (each_at 0 nodes rs) found.0 found.1, found.2)

differ_first : (k : ℕ) (nodes : List NodeInfo) (r : List ℕ) (rs : List (List ℕ)) (o : Option NodeInfo) → slice_get (in_region r nodes) k ≡ o → ((q : List ℕ) → Has rs q → r ≢ q) → Pairs (λ s t. s.region ≢ t.region) (each_at k nodes rs) → Pairs (λ s t. s.region ≢ t.region) (cons_option o (each_at k nodes rs))
differ_first k nodes r rs None e ne rest = rest
differ_first k nodes r rs (Some s) e ne rest = (
  λ t h same.
      let here = in_region_has r nodes s (has_slice_get (in_region r nodes) k s e) in
      let there = each_at_in k nodes rs t h in
      ne t.region there.1 (sym here.1 ∙ same),
  rest,
)

pub regions_differ : (k : ℕ) (nodes : List NodeInfo) (rs : List (List ℕ)) → Pairs (λ x y. x ≢ y) rs → Pairs (λ s t. s.region ≢ t.region) (each_at k nodes rs)
regions_differ k nodes [] h = tt
regions_differ k nodes (r ∷ rs) h = differ_first k nodes r rs (slice_get (in_region r nodes) k) refl h.0 (regions_differ k nodes rs h.1)

-- ---- nodes in the order of their numbers

abbrev pub Rising : List NodeInfo → Type 0
Rising nodes = Pairs (λ s t. s.id.0 < t.id.0) nodes

pub same_node : (nodes : List NodeInfo) (s t : NodeInfo) → Rising nodes → Has nodes s → Has nodes t → s.id ≡ t.id → s ≡ t
same_node [] s t up h k e = absurd h
same_node (x ∷ xs) s t up (inl a) (inl b) e = sym a ∙ b
same_node (x ∷ xs) s t up (inl a) (inr k) e =
    let less : x.id.0 < t.id.0 = up.0 t k in let first : x.id.0 ≡ s.id.0 = ap (λ (n : NodeInfo). n.id.0) a in let same : s.id.0 ≡ t.id.0 = ap (λ (n : NodeId). n.0) e in absurd (omega arith)
same_node (x ∷ xs) s t up (inr h) (inl b) e =
    let less : x.id.0 < s.id.0 = up.0 s h in let first : x.id.0 ≡ t.id.0 = ap (λ (n : NodeInfo). n.id.0) b in let same : s.id.0 ≡ t.id.0 = ap (λ (n : NodeId). n.0) e in absurd (omega arith)
same_node (x ∷ xs) s t up (inr h) (inr k) e = same_node xs s t up.1 h k e

two_in_order : {A : Type 0} (R : A → A → Type 0) (xs : List A) (f s : A) → slice_get xs 0 ≡ Some f → slice_get xs 1 ≡ Some s → Pairs R xs → R f s
two_in_order R [] f s a b p = cc
two_in_order R (x ∷ []) f s a b p = cc
two_in_order {A} R (x ∷ y ∷ xs) f s a b p =
    let first : x ≡ f = cc in let second : y ≡ s = cc in
    let P : A → Type 0 = λ z. R z s in let Q : A → Type 0 = λ z. R x z in
    subst P first (subst Q second (p.0 y (inl refl)))

-- a lowest and a second lowest node are two nodes
pub lowest_second : (nodes : List NodeInfo) (rs : List (List ℕ)) (f s : NodeInfo) → Rising nodes → Has (each_at 0 nodes rs) f → Has (each_at 1 nodes rs) s → f.id ≢ s.id
lowest_second nodes rs f s up hf hs e =
    let a = each_at_has 0 nodes rs f hf in let b = each_at_has 1 nodes rs s hs in
    let in_a = in_region_has a.0 nodes f (has_slice_get (in_region a.0 nodes) 0 f a.2) in
    let in_b = in_region_has b.0 nodes s (has_slice_get (in_region b.0 nodes) 1 s b.2) in
    let same : f ≡ s = same_node nodes f s up in_a.0 in_b.0 e in
    let region : b.0 ≡ a.0 = sym in_b.1 ∙ ap (λ (n : NodeInfo). n.region) (sym same) ∙ in_a.1 in
    let P : List ℕ → Type 0 = λ r. slice_get (in_region r nodes) 1 ≡ Some s in
    let less : f.id.0 < s.id.0 = two_in_order (λ x y. x.id.0 < y.id.0) (in_region a.0 nodes) f s a.2 (subst P region b.2) (pairs_filter (λ x y. x.id.0 < y.id.0) (λ t. bytes_eq t.region a.0) nodes up) in
    let number : f.id.0 ≡ s.id.0 = ap (λ (n : NodeId). n.0) e in
    omega arith
