use Rattle.std.proofs.Common.{◌≡◌, ℕ, Bool, cond, List, [], ◌∷◌, ◌++◌, None, Some, map, refl, ap, ◌∙◌}
use Rattle.std.specs.List.{AllZip}
use Rattle.std.specs.Map.{lookup}
use Rattle.std.specs.Str.{bytes_eq}
use Rattle.std.proofs.lemmas.List.{map-append}

-- A look-up among the keys as bytes is one among the keys.
pub lookup-map : {K V : Type 0} (key : K → List ℕ) (test : List ℕ → Bool) (es : List (K × V)) → lookup (λ k. test (key k)) es ≡ lookup test (map (λ e. (key e.0, e.1)) es)
lookup-map key test [] = refl
lookup-map key test (e ∷ es) = ap (λ r. cond (test (key e.0)) (Some e.1) r) (lookup-map key test es)

-- A name that isn't found as bytes isn't found by a key of these bytes.
pub absent_as_key : {K V : Type 0} (key : K → List ℕ) (k : K) (name : List ℕ) (es : List (K × V)) (seen : List (List ℕ × V)) → map (λ e. (key e.0, e.1)) es ≡ seen → key k ≡ name → lookup (bytes_eq name) seen ≡ None → lookup (λ x. bytes_eq (key k) (key x)) es ≡ None
absent_as_key key k name es seen v n h = lookup-map key (bytes_eq (key k)) es ∙ ap (λ m. lookup (bytes_eq m) (map (λ e. (key e.0, e.1)) es)) n ∙ ap (lookup (bytes_eq name)) v ∙ h

-- An entry at the end is seen at the end.
pub pushed_as_seen : {K V : Type 0} (key : K → List ℕ) (k : K) (p : V) (name : List ℕ) (es new : List (K × V)) (seen : List (List ℕ × V)) → map (λ e. (key e.0, e.1)) es ≡ seen → key k ≡ name → new ≡ es ++ (k, p) ∷ [] → map (λ e. (key e.0, e.1)) new ≡ seen ++ (name, p) ∷ []
pushed_as_seen key k p name es new seen v n h = ap (map (λ e. (key e.0, e.1))) h ∙ map-append (λ e. (key e.0, e.1)) es ((k, p) ∷ []) ∙ ap (λ s. s ++ (key k, p) ∷ []) v ∙ ap (λ m. seen ++ (m, p) ∷ []) n

-- Clones of the entries are seen as the entries are.
pub clones_as_seen : {K V : Type 0} (key : K → List ℕ) (C : K → K → Type 0) → ((x y : K) → C x y → key y ≡ key x) → (es fs : List (K × V)) → AllZip (λ p q. C p.0 q.0 × (q.1 ≡ p.1)) es fs → map {B = List ℕ × V} (λ e. (key e.0, e.1)) fs ≡ map {B = List ℕ × V} (λ e. (key e.0, e.1)) es
clones_as_seen key C same [] [] h = refl
clones_as_seen key C same [] (f ∷ fs) h = absurd h
clones_as_seen key C same (e ∷ es) [] h = absurd h
clones_as_seen key C same (e ∷ es) (f ∷ fs) h =
    let a = same e.0 f.0 h.0.0 in let b = h.0.1 in let t = clones_as_seen key C same es fs h.1 in cc
