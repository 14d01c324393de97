-- The targets of an UPDATE, one after the other.
use Rattle.std.proofs.Common.{◌≡◌, ℕ, ◌+◌, ◌<◌, List, [], ◌∷◌, ◌++◌, Option, Some, None, map, length, take, drop, get_or, refl, sym, ap, ◌∙◌}
use Rattle.std.specs.Option.{option_or}
use Rattle.std.proofs.lemmas.List.{drop_more, map_more}
use Rattle.mr_base.specs.declared.states.SqlState.{SqlState}
use Rattle.region_sql.specs.declared.row_statements.Target.{Target}
use Rattle.descriptors.specs.declared.table.Table.{Table}
use Rattle.sql_eval.specs.Faults.{set_fault, source_fault, targets_fault}

or_assoc : {A : Type 0} (a b c : Option A) → option_or a (option_or b c) ≡ option_or (option_or a b) c
or_assoc None b c = refl
or_assoc (Some x) b c = refl

abbrev names_of : List Target → List (List ℕ)
names_of targets = map (λ x. x.column) targets

abbrev fault_of : Table → List Target → Target → Option SqlState
fault_of t before x = option_or (set_fault t (names_of before) x.column) (source_fault t x.value)

step : (t : Table) (targets : List Target) (i : ℕ) (x : Target) → i < length targets → x ≡ get_or targets i x
    → targets_fault t (names_of (take i targets)) (drop i targets) ≡ option_or (fault_of t (take i targets) x) (targets_fault t (names_of (take (i + 1) targets)) (drop (i + 1) targets))
step t targets i x lt at =
    ap (targets_fault t (names_of (take i targets))) (drop_more targets i x lt ∙ ap (λ y. y ∷ drop (i + 1) targets) (sym at))
    ∙ or_assoc (set_fault t (names_of (take i targets)) x.column) (source_fault t x.value) (targets_fault t (names_of (take i targets) ++ x.column ∷ []) (drop (i + 1) targets))
    ∙ ap (λ names. option_or (fault_of t (take i targets) x) (targets_fault t names (drop (i + 1) targets))) (ap (λ y. names_of (take i targets) ++ y.column ∷ []) at ∙ sym (map_more (λ x. x.column) targets i x lt))

-- A target with a fault ends them.
pub target_ends : (t : Table) (targets before : List Target) (i : ℕ) (x : Target) (fault : SqlState) → Some fault ≡ fault_of t before x → before ≡ take i targets → i < length targets → x ≡ get_or targets i x
    → targets_fault t (names_of (take i targets)) (drop i targets) ≡ Some fault
target_ends t targets before i x fault e same lt at =
    step t targets i x lt at ∙ ap (λ b. option_or (fault_of t b x) (targets_fault t (names_of (take (i + 1) targets)) (drop (i + 1) targets))) (sym same)
    ∙ ap (λ o. option_or o (targets_fault t (names_of (take (i + 1) targets)) (drop (i + 1) targets))) (sym e)

-- After one without a fault come the others.
pub target_passes : (t : Table) (targets before : List Target) (i : ℕ) (x : Target) → None ≡ fault_of t before x → before ≡ take i targets → i < length targets → x ≡ get_or targets i x
    → targets_fault t (names_of (take i targets)) (drop i targets) ≡ targets_fault t (names_of (take (i + 1) targets)) (drop (i + 1) targets)
target_passes t targets before i x e same lt at =
    step t targets i x lt at ∙ ap (λ b. option_or (fault_of t b x) (targets_fault t (names_of (take (i + 1) targets)) (drop (i + 1) targets))) (sym same)
    ∙ ap (λ o. option_or o (targets_fault t (names_of (take (i + 1) targets)) (drop (i + 1) targets))) (sym e)
