-- The values to which terms fix columns have the types of the columns.
use Rattle.std.proofs.Common.{◌≡◌, ℕ, ℤ, pos, negsuc, get_or, zero, suc, ◌+◌, ◌<◌, ◌≤◌, Bool, true, false, cond, List, [], ◌∷◌, ◌++◌, length, refl, sym, ap, subst, ◌∙◌, arith}
use Rattle.std.specs.Prelude.{◌≢◌, ◌&&◌, All, AllPairs, Contains, Option, Some, None, find, map, slice_get, option_map, unwrap_or, IsSomeAnd, IsTrue, FitsSigned}
use Rattle.std.specs.Int.{w64}
use Rattle.std.proofs.lemmas.Bool.Decides.{nat_tests}
use Rattle.mr_base.specs.declared.rows.Datum.TheVariants as datums
use Rattle.region_sql.specs.declared.region_statements.ColumnType.TheVariants as types
use Rattle.std.specs.Cmp.Lexicographic.{bytes_decides}
use Rattle.std.specs.List.{AllZip, AllByRecursion, enumerate_from}
use Rattle.std.specs.Option.{option_or}
use Rattle.std.specs.Str.{bytes_eq}
use Rattle.std.proofs.lemmas.List.{append-nil, length-map}
use Rattle.std.proofs.lemmas.List.Elements.{recursion_from_All}
use Rattle.std.proofs.lemmas.Option.{same_Some, slice_get_within}
use Rattle.mr_base.specs.declared.rows.Datum.{Datum}
use Rattle.region_sql.specs.declared.region_statements.ColumnType.{ColumnType}
use Rattle.region_sql.specs.declared.row_statements.Term.{Term}
use Rattle.descriptors.specs.declared.table.Table.{Table}
use Rattle.descriptors.specs.Sound.{AreDistinct, IsSoundTable}
use Rattle.descriptors.proofs.Found.{found}
use Rattle.row_locality.specs.Keys.{types_at, index_types}
use Rattle.row_locality.specs.Rows.{HasType, is_by_row, region_column, indexes}
use Rattle.row_locality.proofs.FrontLemmas.{bind_some, map_some}
use Rattle.sql_eval.specs.Faults.{column_named}
use Rattle.sql_eval.specs.Lookups.{is_equality, fixed_value, fixed_value_at, fixed_values, first_fixed, index_for}
use Rattle.sql_eval.specs.RowWords.{datum_of, fits_int, is_in_range}
use Rattle.local_search.specs.LookupOrder.{IsTypedTerm}

abbrev Columns : Type 0
Columns = List (List ℕ × ColumnType)

-- ---- the column of a name

itself : (name : List ℕ) → bytes_eq name name ≡ true
itself name = (bytes_decides name name).1 refl

differs : (b : Bool) (P : Type 0) → (b ≡ true → P) → ¬ P → b ≡ false
differs true P f n = absurd (n (f refl))
differs false P f n = refl

heads : {X : Type 0} (R : X → X → Type 0) (x : X) (xs : List X) → AllPairs R (x ∷ xs) → AllByRecursion (R x) xs
heads R x xs h = recursion_from_All (R x) xs (λ k d p. h 0 (suc k) d (omega arith) (omega arith))

tails : {X : Type 0} (R : X → X → Type 0) (x : X) (xs : List X) → AllPairs R (x ∷ xs) → AllPairs R xs
tails R x xs h = λ i j d p q. h (suc i) (suc j) d (omega arith) (omega arith)

other_name : (name : List ℕ) (columns : Columns) (place : ℕ) (c : List ℕ × ColumnType) → AllByRecursion (λ x. name ≢ x) (map (λ c. c.0) columns)
    → slice_get columns place ≡ Some c → name ≢ c.0
other_name name [] place c h e = absurd (cc)
other_name name (d ∷ ds) zero c h e = let same : d ≡ c = same_Some d c e in subst (λ (x : List ℕ × ColumnType). name ≢ x.0) same h.0
other_name name (d ∷ ds) (suc place) c h e = other_name name ds place c h.1 e

found_by_name : (b : Bool) (d c : List ℕ × ColumnType) (o : Option (List ℕ × ColumnType)) → b ≡ false → o ≡ Some c → cond b (Some d) o ≡ Some c
found_by_name true d c o e f = cc
found_by_name false d c o e f = f

column_at : (columns more : Columns) (place : ℕ) (c : List ℕ × ColumnType) → AreDistinct (map (λ c. c.0) columns) → slice_get columns place ≡ Some c
    → find (λ d. bytes_eq c.0 d.0) (columns ++ more) ≡ Some c
column_at [] more place c h e = absurd (cc)
column_at (d ∷ ds) more zero c h e =
    let same : d ≡ c = same_Some d c e in
    subst (λ (x : List ℕ × ColumnType). find (λ d. bytes_eq x.0 d.0) ((d ∷ ds) ++ more) ≡ Some x) same (ap (λ (b : Bool). cond b (Some d) (find (λ x. bytes_eq d.0 x.0) (ds ++ more))) (itself d.0))
column_at (d ∷ ds) more (suc place) c h e =
    let names : AllByRecursion (λ x. d.0 ≢ x) (map (λ c. c.0) ds) = heads (λ x y. x ≢ y) d.0 (map (λ c. c.0) ds) h in
    let other : c.0 ≢ d.0 = λ (s : c.0 ≡ d.0). other_name d.0 ds place c names e (sym s) in
    found_by_name (bytes_eq c.0 d.0) d c _ (differs (bytes_eq c.0 d.0) (c.0 ≡ d.0) (bytes_decides c.0 d.0).0 other)
    (column_at ds more place c (tails (λ x y. x ≢ y) d.0 (map (λ c. c.0) ds) h) e)

column_in_all : (b : Bool) (columns : Columns) (region : List ℕ × ColumnType) (place : ℕ) (c : List ℕ × ColumnType) → AreDistinct (map (λ c. c.0) columns)
    → slice_get columns place ≡ Some c → find (λ d. bytes_eq c.0 d.0) (cond b (columns ++ region ∷ []) columns) ≡ Some c
column_in_all true columns region place c h e = column_at columns (region ∷ []) place c h e
column_in_all false columns region place c h e =
    subst (λ (cs : Columns). find (λ d. bytes_eq c.0 d.0) cs ≡ Some c) (append-nil columns) (column_at columns [] place c h e)

pub column_is_named : (t : Table) (place : ℕ) (c : List ℕ × ColumnType) → IsSoundTable t → slice_get t.columns place ≡ Some c → column_named t c.0 ≡ Some c
column_is_named t place c sound e = column_in_all (is_by_row t) t.columns region_column place c sound.named e

-- ---- the first term that fixes a column

at : {X : Type 0} (P : X → Type 0) (xs : List X) (x : X) → All P xs → Contains xs x → P x
at P xs x all there = subst P there.2 (all there.0 x there.1)

found_passes : {X : Type 0} (P : X → Type 0) (p : X → Bool) (xs : List X) (x : X) → All P xs → find p xs ≡ Some x → P x × (p x ≡ true)
found_passes P p xs x all e = let there = found p xs x e in (at P xs x all there.0, there.1)

both_true : (a b : Bool) → (a && b) ≡ true → (a ≡ true) × (b ≡ true)
both_true true b e = (refl, e)
both_true false b e = cc

typed_at : (t : Table) (x : Term) (c : List ℕ × ColumnType) → column_named t x.column ≡ Some c → IsTypedTerm t x → HasType c.1 (datum_of x.literal)
typed_at t x c e h = subst (λ o. IsSomeAnd o (λ c. HasType c.1 (datum_of x.literal))) e h

-- A column with a value to which terms fix it.
pub record FixedAt (t : Table) (place : ℕ) (v : Datum) : Type 0 where
  pub column : List ℕ × ColumnType
  pub at : slice_get t.columns place ≡ Some column
  pub typed : HasType column.1 v

int_in_range : (n : ℤ) → FitsSigned w64 n → fits_int n ≡ true
int_in_range (pos n) h = grind (arith, nat_tests)
int_in_range (negsuc n) h = grind (arith, nat_tests)

in_range : (ty : ColumnType) (v : Datum) → HasType ty v → is_in_range v ≡ true
in_range types.Int (datums.Int n) h = int_in_range n h
in_range types.String (datums.Text s) h = refl
in_range types.Bool (datums.Bool b) h = refl
in_range types.Int (datums.Text s) h = absurd h
in_range types.Int (datums.Bool b) h = absurd h
in_range types.String (datums.Int n) h = absurd h
in_range types.String (datums.Bool b) h = absurd h
in_range types.Bool (datums.Int n) h = absurd h
in_range types.Bool (datums.Text s) h = absurd h

term_in_range : (o : Option (List ℕ × ColumnType)) (v : Datum) → IsSomeAnd o (λ c. HasType c.1 v) → is_in_range v ≡ true
term_in_range None v h = absurd h
term_in_range (Some c) v h = in_range c.1 v h

true_is : (b : Bool) → b ≡ true → IsTrue b
true_is b e = e

pub terms_in_range : (t : Table) (terms : List Term) → All (IsTypedTerm t) terms → All (λ x. IsTrue (is_in_range (datum_of x.literal))) terms
terms_in_range t terms h = λ k d p. true_is (is_in_range (datum_of (get_or terms k d).literal)) (term_in_range (column_named t (get_or terms k d).column) (datum_of (get_or terms k d).literal) (h k d p))

pub found_in_range : (p : Term → Bool) (terms : List Term) (x : Term) → All (λ x. IsTrue (is_in_range (datum_of x.literal))) terms → find p terms ≡ Some x → IsTrue (is_in_range (datum_of x.literal))
found_in_range p terms x all e = at (λ (x : Term). IsTrue (is_in_range (datum_of x.literal))) terms x all (found p terms x e).0

pub fixed_is_typed : (t : Table) (terms : List Term) (place : ℕ) (v : Datum) → IsSoundTable t → All (IsTypedTerm t) terms → fixed_value_at t terms place ≡ Some v → FixedAt t place v
fixed_is_typed t terms place v sound typed e =
    let c : (c : List ℕ × ColumnType) × (slice_get t.columns place ≡ Some c) × (fixed_value terms c.0 ≡ Some v) = bind_some (slice_get t.columns place) (λ c. fixed_value terms c.0) v e in
    let x : (x : Term) × (find (λ x. bytes_eq c.0.0 x.column && is_equality x.op) terms ≡ Some x) × (datum_of x.literal ≡ v) =
    map_some (λ x. datum_of x.literal) (find (λ x. bytes_eq c.0.0 x.column && is_equality x.op) terms) v c.2 in
    let p : IsTypedTerm t x.0 × ((bytes_eq c.0.0 x.0.column && is_equality x.0.op) ≡ true) =
    found_passes (IsTypedTerm t) (λ x. bytes_eq c.0.0 x.column && is_equality x.op) terms x.0 typed x.1 in
    let name : c.0.0 ≡ x.0.column = (bytes_decides c.0.0 x.0.column).0 (both_true (bytes_eq c.0.0 x.0.column) (is_equality x.0.op) p.1).0 in
    let named : column_named t x.0.column ≡ Some c.0 = subst (λ (n : List ℕ). column_named t n ≡ Some c.0) name (column_is_named t place c.0 sound c.1) in
    record {
      column = c.0;
      at = c.1;
      typed = subst (HasType c.0.1) x.2 (typed_at t x.0 c.0 named p.0);
    }

-- ---- the index by which rows are found

type_first : (t : Table) (place : ℕ) (places : List ℕ) (c : List ℕ × ColumnType) (vs : List Datum) (v : Datum) → slice_get t.columns place ≡ Some c → HasType c.1 v
    → AllZip HasType (types_at t places) vs → AllZip HasType (types_at t (place ∷ places)) (v ∷ vs)
type_first t place places c vs v at typed rest = rw at (typed, rest)

pub values_are_typed : (t : Table) (terms : List Term) (places : List ℕ) (vs : List Datum) → IsSoundTable t → All (IsTypedTerm t) terms
    → fixed_values t terms places ≡ Some vs → AllZip HasType (types_at t places) vs
values_are_typed t terms [] vs sound typed e = let same : [] ≡ vs = same_Some [] vs e in subst (λ (ws : List Datum). AllZip HasType [] ws) same tt
values_are_typed t terms (place ∷ places) vs sound typed e =
    let v = bind_some (fixed_value_at t terms place) (λ v. option_map (λ vs. v ∷ vs) (fixed_values t terms places)) vs e in
    let ws = map_some (λ (ws : List Datum). v.0 ∷ ws) (fixed_values t terms places) vs v.2 in
    let f : FixedAt t place v.0 = fixed_is_typed t terms place v.0 sound typed v.1 in
    let rest : AllZip HasType (types_at t places) ws.0 = values_are_typed t terms places ws.0 sound typed ws.1 in
    subst (λ (us : List Datum). AllZip HasType (types_at t (place ∷ places)) us) ws.2 (type_first t place places f.column ws.0 v.0 f.at f.typed rest)

-- An index of these, numbered from one on, with the values of its columns.
pub record ChosenFrom (t : Table) (terms : List Term) (from : ℕ) (xs : List (List ℕ)) (x : ℕ × List Datum) : Type 0 where
  pub place : ℕ
  pub columns : List ℕ
  pub number : x.0 ≡ from + place
  pub at : slice_get xs place ≡ Some columns
  pub fixed : fixed_values t terms columns ≡ Some x.1

chosen_at : (t : Table) (terms : List Term) (from : ℕ) (columns : List ℕ) (xs : List (List ℕ)) (x : ℕ × List Datum) (o : Option (List Datum)) → fixed_values t terms columns ≡ o
    → (first_fixed t terms (enumerate_from (from + 1) xs) ≡ Some x → ChosenFrom t terms (from + 1) xs x)
    → option_or (option_map (λ vs. (from, vs)) o) (first_fixed t terms (enumerate_from (from + 1) xs)) ≡ Some x → ChosenFrom t terms from (columns ∷ xs) x
chosen_at t terms from columns xs x (Some vs) is later e =
    let same : (from, vs) ≡ x = same_Some (from, vs) x e in
    record {
      place = 0;
      columns = columns;
      number = omega (arith, ap (λ (y : ℕ × List Datum). y.0) same);
      at = refl;
      fixed = is ∙ ap (λ (y : ℕ × List Datum). Some y.1) same;
    }
chosen_at t terms from columns xs x None is later e =
    let rest : ChosenFrom t terms (from + 1) xs x = later e in
    record { place = suc rest.place; columns = rest.columns; number = omega (arith, rest.number); at = rest.at; fixed = rest.fixed }

pub chosen_from : (t : Table) (terms : List Term) (from : ℕ) (xs : List (List ℕ)) (x : ℕ × List Datum) → first_fixed t terms (enumerate_from from xs) ≡ Some x
    → ChosenFrom t terms from xs x
chosen_from t terms from [] x e = absurd (cc)
chosen_from t terms from (columns ∷ xs) x e = chosen_at t terms from columns xs x (fixed_values t terms columns) refl (chosen_from t terms (from + 1) xs x) e

-- The index by which rows are found is one of the table, and its values have the types of its columns.
pub record IsTypedIndex (t : Table) (x : ℕ × List Datum) : Type 0 where
  pub number : x.0 ≤ length t.unique
  pub typed : AllZip HasType (index_types t x.0) x.1

pub index_is_typed : (t : Table) (terms : List Term) (x : ℕ × List Datum) → IsSoundTable t → All (IsTypedTerm t) terms → index_for t terms ≡ Some x → IsTypedIndex t x
unfolding index_for
index_is_typed t terms x sound typed e =
    let c : ChosenFrom t terms 0 (indexes t) x = chosen_from t terms 0 (indexes t) x e in
    let place : x.0 ≡ c.place = omega (arith, c.number) in
    let within : c.place < length (indexes t) = slice_get_within (indexes t) c.place c.columns c.at in
    let types : types_at t c.columns ≡ index_types t x.0 =
    sym (ap (λ (o : Option (List ℕ)). unwrap_or (option_map (types_at t) o) []) (ap (slice_get (indexes t)) place ∙ c.at)) in
    record {
      number = omega (arith, place, within, length-map t.unique (λ (c : ℕ). c ∷ []));
      typed = subst (λ tys. AllZip HasType tys x.1) types (values_are_typed t terms c.columns x.1 sound typed c.fixed);
    }
