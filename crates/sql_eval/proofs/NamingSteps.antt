-- The table that a statement names is the one that the catalog gives for its name.
use Rattle.std.proofs.Common.{◌≡◌, ℕ, ◌≤◌, Bool, true, false, ◌&&◌, nat_lt, cond, List, [], ◌∷◌, Option, Some, None, length, refl, sym, ap, ap₂, ◌∙◌, slice_get, position, arith}
use Rattle.std.specs.Prelude.{option_and_then}
use Rattle.std.specs.List.{find, position_or_len}
use Rattle.std.specs.Str.{bytes_eq}
use Rattle.std.proofs.lemmas.Bool.Decides.{nat_tests}
use Rattle.std.proofs.lemmas.Grind.{common_steps}
use Rattle.std.proofs.lemmas.List.Folds.{find_at}
use Rattle.descriptors.proofs.Found.{same_bytes}
use Rattle.descriptors.specs.declared.database.Database.{Database}
use Rattle.descriptors.specs.declared.table.Table.{Table}
use Rattle.descriptors.specs.Contents.{Contents, current_database, current_table, is_table}
use Rattle.sql_eval.specs.Execution.{named_table, with_database}
use Rattle.sql_eval.proofs.ListSteps.{none_past}

find_passes : {X : Type 0} (p : X → Bool) (xs : List X) (x : X) → find p xs ≡ Some x → p x ≡ true
find_passes p [] x e = cc
find_passes p (y ∷ ys) x e =
    let P : Bool → Type 0 = λ b. p y ≡ b → cond b (Some y) (find p ys) ≡ Some x → p x ≡ true in
    (elim (p y) as P [ true ↦ λ q h. let same : y ≡ x = cc in ap p (sym same) ∙ q | false ↦ λ q h. find_passes p ys x h ]) refl e

and_both : (a b : Bool) → (a && b) ≡ true → (a ≡ true) × (b ≡ true)
and_both true b e = (refl, e)
and_both false b e = cc

-- A list has an item that passes exactly where it has a first place of one.
place_of_found : {X : Type 0} (p : X → Bool) (xs : List X) (x : X) (place : ℕ) → find p xs ≡ Some x → position p xs ≡ Some place → slice_get xs place ≡ Some x
place_of_found p xs x place e f =
    let at : slice_get xs (position_or_len p xs) ≡ Some x = sym (find_at p xs) ∙ e in
    let P : Bool → Type 0 = λ b. cond b (Some (position_or_len p xs)) None ≡ Some place → slice_get xs place ≡ Some x in
    (elim (nat_lt (position_or_len p xs) (length xs)) as P [ true ↦ λ h. let same : position_or_len p xs ≡ place = cc in ap (slice_get xs) (sym same) ∙ at | false ↦ λ h. cc ]) f

no_place : {X : Type 0} (p : X → Bool) (xs : List X) → find p xs ≡ None → position p xs ≡ None
no_place p xs e = let past : length xs ≤ position_or_len p xs = none_past xs (position_or_len p xs) (sym (find_at p xs) ∙ e) in grind (arith, common_steps, nat_tests)

-- Where the catalog has no table of the name, a statement names none.
pub names_none : (c : Contents) (name : List ℕ) → current_table c name ≡ None → named_table c name ≡ None
unfolding named_table
names_none c name e =
    let P : Option Database → Type 0 = λ o. option_and_then (λ d. find (is_table d.name name) c.tables) o ≡ None
    → option_and_then (λ place. option_and_then (with_database c place) (slice_get c.tables place)) (option_and_then (λ d. position (is_table d.name name) c.tables) o) ≡ None in
    (elim (current_database c) as P [ None ↦ λ h. refl | Some d ↦ λ h. ap (option_and_then (λ place. option_and_then (with_database c place) (slice_get c.tables place))) (no_place (is_table d.name name) c.tables h) ]) e

by_place : (c : Contents) (t : Table) (o : Option ℕ) → ((place : ℕ) → o ≡ Some place → slice_get c.tables place ≡ Some t)
    → option_and_then (λ place. option_and_then (with_database c place) (slice_get c.tables place)) o ≡ option_and_then (λ place. with_database c place t) o
by_place c t None at = refl
by_place c t (Some place) at = ap (option_and_then (with_database c place)) (at place refl)

-- Where it has one, a statement names that one, at its place.
pub names_table : (c : Contents) (name : List ℕ) (t : Table) → current_table c name ≡ Some t
    → named_table c name ≡ option_and_then (λ place. with_database c place t) (position (is_table t.database t.name) c.tables)
unfolding named_table
names_table c name t e =
    let P : Option Database → Type 0 = λ o. option_and_then (λ d. find (is_table d.name name) c.tables) o ≡ Some t
    → option_and_then (λ place. option_and_then (with_database c place) (slice_get c.tables place)) (option_and_then (λ d. position (is_table d.name name) c.tables) o)
    ≡ option_and_then (λ place. with_database c place t) (position (is_table t.database t.name) c.tables) in
    (elim (current_database c) as P [
      | None ↦ λ h. cc
      | Some d ↦ λ h.
          let passes = find_passes (is_table d.name name) c.tables t h in
          let both = and_both (bytes_eq d.name t.database) (bytes_eq name t.name) passes in
          let same : is_table d.name name ≡ is_table t.database t.name = ap₂ is_table (same_bytes d.name t.database both.0) (same_bytes name t.name both.1) in
          ap (λ p. option_and_then (λ place. option_and_then (with_database c place) (slice_get c.tables place)) (position p c.tables)) same
          ∙ by_place c t (position (is_table t.database t.name) c.tables) (λ place q. place_of_found (is_table t.database t.name) c.tables t place (ap (λ p. find p c.tables) (sym same) ∙ h) q)
    ]) e
