-- Rows that are made value by value, and lists of them row by row.
use Rattle.std.proofs.Common.{◌≡◌, ℕ, ◌+◌, ◌<◌, ◌≤◌, ◌&&◌, Bool, true, false, if◌then◌else◌, List, [], ◌∷◌, ◌++◌, Option, Some, None, Result, Ok, Err, map, length, take, drop, get_or, refl, sym, ap, ◌∙◌, subst, slice_get, suc, zero}
use Rattle.std.specs.List.{list_all, filter_map, cons_option}
use Rattle.std.specs.Option.{option_or, option_to_list}
use Rattle.std.proofs.lemmas.List.{append-nil, append_assoc, drop_more, drop_all}
use Rattle.std.proofs.lemmas.List.Folds.{list_all-append}
use Rattle.mr_base.specs.declared.rows.Datum.{Datum}
use Rattle.mr_base.specs.declared.states.SqlState.{SqlState}
use Rattle.mr_base.specs.declared.states.SqlState.TheVariants.{S22003, S54000}
use Rattle.sql_eval.specs.RowWords.{◌>>=◌, all_values, is_in_range, checked_row}
use Rattle.descriptors.specs.declared.table.Table.{Table}
use Rattle.row_locality.specs.Values.{is_small}
use Rattle.region_sql.specs.declared.region_statements.ColumnType.{ColumnType}
use Rattle.region_sql.specs.declared.row_statements.Literal.{Literal}
use Rattle.region_sql.specs.declared.row_statements.Target.{Target}
use Rattle.sql_eval.specs.RowWords.{given_value, or_fault, region_if, set_value}
use Rattle.sql_eval.specs.Answered.{Answers, checked_value, checked_option}
use Rattle.sql_eval.specs.declared.stop.Stop.{Stop}
use Rattle.sql_eval.specs.declared.stop.Stop.TheVariants as stops
use Rattle.sql_eval.proofs.ListSteps.{filter_map_more}

-- ---- what the rows are made of

-- The value of a column in the row that INSERT makes of a row of VALUES.
abbrev pub made_at : List ℕ → List (List ℕ) → List Literal → List ℕ × ColumnType → Option Datum
made_at region names row c = option_or (given_value names row c.0) (region_if region c.0)

-- The value of a column, with its place, in the row that UPDATE makes of an old one.
abbrev pub changed_at : Table → List Target → List Datum → ℕ × (List ℕ × ColumnType) → Option Datum
changed_at t targets old x = option_or (set_value t targets old x.1.0) (slice_get old x.0)

-- ---- values

-- What the check of a value says of the value.
value_ok : (v w : Datum) → checked_value v ≡ Ok w → (v ≡ w) × (is_in_range v ≡ true)
value_ok v w e = let P : Bool → Type 0 = λ b. (if b then Ok v else Err S22003) ≡ Ok w → (v ≡ w) × (b ≡ true) in
    (elim (is_in_range v) as P [ true ↦ λ h. (cc, refl) | false ↦ λ h. cc ]) e

value_err : (v : Datum) (s : SqlState) → checked_value v ≡ Err s → (s ≡ S22003) × (is_in_range v ≡ false)
value_err v s e = let P : Bool → Type 0 = λ b. (if b then Ok v else Err S22003) ≡ Err s → (s ≡ S22003) × (b ≡ false) in
    (elim (is_in_range v) as P [ true ↦ λ h. cc | false ↦ λ h. (cc, refl) ]) e

-- What the check of an optional value says of it.
pub option_ok : (p o : Option Datum) → checked_option p ≡ Ok o → (p ≡ o) × (list_all is_in_range (option_to_list o) ≡ true)
option_ok None None e = (refl, refl)
option_ok None (Some w) e = cc
option_ok (Some v) None e =
    let P : Result Datum SqlState → Type 0 = λ r. (r >>= λ x. Ok (Some x)) ≡ Ok None → (Some v ≡ None) × (list_all is_in_range [] ≡ true) in
    (elim (checked_value v) as P [ Ok x ↦ λ h. cc | Err s ↦ λ h. cc ]) e
option_ok (Some v) (Some w) e =
    let P : Result Datum SqlState → Type 0 = λ r. checked_value v ≡ r → (r >>= λ x. Ok (Some x)) ≡ Ok (Some w) → (Some v ≡ Some w) × (list_all is_in_range (w ∷ []) ≡ true) in
    (elim (checked_value v) as P [ Ok x ↦ λ q h. let both = value_ok v x q in let same : x ≡ w = cc in (ap (λ y. Some y) (both.0 ∙ same), ap (λ b. b && true) (subst (λ y. is_in_range y ≡ true) (both.0 ∙ same) both.1)) | Err s ↦ λ q h. cc ]) refl e

pub option_err : (o : Option Datum) (s : SqlState) → checked_option o ≡ Err s → (s ≡ S22003) × (v : Datum) × (o ≡ Some v) × (is_in_range v ≡ false)
option_err None s e = cc
option_err (Some v) s e =
    let P : Result Datum SqlState → Type 0 = λ r. checked_value v ≡ r → (r >>= λ x. Ok (Some x)) ≡ Err s → (s ≡ S22003) × (w : Datum) × (Some v ≡ Some w) × (is_in_range w ≡ false) in
    (elim (checked_value v) as P [ Ok x ↦ λ q h. cc | Err t ↦ λ q h. let both = value_err v t q in let same : s ≡ t = cc in (same ∙ both.0, v, refl, both.1) ]) refl e

-- ---- rows

and_false : (b c : Bool) → c ≡ false → (b && c) ≡ false
and_false true c e = e
and_false false c e = refl

-- A value that is out of range among those of a row.
pub out_of_range : {X : Type 0} (h : X → Option Datum) (xs : List X) (i : ℕ) (x : X) (v : Datum) → slice_get xs i ≡ Some x → h x ≡ Some v → is_in_range v ≡ false → list_all is_in_range (filter_map h xs) ≡ false
out_of_range h [] i x v at e f = cc
out_of_range h (y ∷ ys) zero x v at e f =
    let same : y ≡ x = cc in
    ap (λ o. list_all is_in_range (cons_option o (filter_map h ys))) (ap h same ∙ e) ∙ ap (λ b. b && list_all is_in_range (filter_map h ys)) f
out_of_range h (y ∷ ys) (suc i) x v at e f =
    let rest = out_of_range h ys i x v at e f in
    elim (h y) as (λ o. list_all is_in_range (cons_option o (filter_map h ys)) ≡ false) [ None ↦ rest | Some w ↦ and_false (is_in_range w) (list_all is_in_range (filter_map h ys)) rest ]

-- One more value of a row.
pub row_more : {X : Type 0} (h : X → Option Datum) (xs : List X) (i : ℕ) (x : X) (held : List Datum) (o : Option Datum) → slice_get xs i ≡ Some x → checked_option (h x) ≡ Ok o → held ≡ filter_map h (take i xs) → list_all is_in_range held ≡ true
    → (held ++ option_to_list o ≡ filter_map h (take (i + 1) xs)) × (list_all is_in_range (held ++ option_to_list o) ≡ true)
row_more h xs i x held o at e f g =
    let both = option_ok (h x) o e in
    (filter_map_more h xs i x held o at both.0 f, list_all-append is_in_range held (option_to_list o) ∙ ap (λ b. b && list_all is_in_range (option_to_list o)) g ∙ both.1)

-- A value that can't be one ends its row.
pub row_stop : {X : Type 0} (t : Table) (h : X → Option Datum) (xs : List X) (i : ℕ) (x : X) (s : Stop) → slice_get xs i ≡ Some x → Answers (checked_option (h x)) (Err s) → Answers (checked_row t (filter_map h xs)) (Err s)
row_stop t h xs i x (stops.State state) at e =
    let why = option_err (h x) state e in
    let wide = out_of_range h xs i x why.1 at why.2 why.3 in
    ap (λ b. or_fault (if b then (if is_small t (filter_map h xs) then None else Some S54000) else Some S22003) (filter_map h xs)) wide ∙ ap (λ y. Err y) (sym why.0)
row_stop t h xs i x stops.Memory at e = tt

-- ---- lists of rows

-- What is held, and after it the rest.
abbrev pub after : {A : Type 0} → List A → Result (List A) SqlState → Result (List A) SqlState
after held r = r >>= λ rest. Ok (held ++ rest)

one_more : {A : Type 0} (held : List A) (y : A) (r : Result (List A) SqlState) → after held (r >>= λ ys. Ok (y ∷ ys)) ≡ after (held ++ y ∷ []) r
one_more held y (Ok ys) = ap (λ l. Ok l) (sym (append_assoc held (y ∷ []) ys))
one_more held y (Err s) = refl

pub rows_step : {X A : Type 0} (f : X → Result A SqlState) (xs : List X) (i : ℕ) (x : X) (held : List A) (y : A) → i < length xs → x ≡ get_or xs i x → f x ≡ Ok y → after held (all_values (map f (drop i xs))) ≡ after (held ++ y ∷ []) (all_values (map f (drop (i + 1) xs)))
rows_step f xs i x held y lt at e =
    ap (λ l. after held (all_values (map f l))) (drop_more xs i x lt)
    ∙ ap (λ r. after held (r >>= λ z. all_values (map f (drop (i + 1) xs)) >>= λ zs. Ok (z ∷ zs))) (ap f (sym at) ∙ e)
    ∙ one_more held y (all_values (map f (drop (i + 1) xs)))

pub rows_stop : {X A : Type 0} (f : X → Result A SqlState) (xs : List X) (i : ℕ) (x : X) (held : List A) (s : SqlState) → i < length xs → x ≡ get_or xs i x → f x ≡ Err s → after held (all_values (map f (drop i xs))) ≡ Err s
rows_stop f xs i x held s lt at e =
    ap (λ l. after held (all_values (map f l))) (drop_more xs i x lt)
    ∙ ap (λ r. after held (r >>= λ z. all_values (map f (drop (i + 1) xs)) >>= λ zs. Ok (z ∷ zs))) (ap f (sym at) ∙ e)

pub rows_end : {X A : Type 0} (f : X → Result A SqlState) (xs : List X) (i : ℕ) (held : List A) → length xs ≤ i → after held (all_values (map f (drop i xs))) ≡ Ok held
rows_end f xs i held le = ap (λ l. after held (all_values (map f l))) (drop_all i xs le) ∙ ap (λ l. Ok l) (append-nil held)

-- A row with a fault ends the list.
pub list_stop : {X A : Type 0} (f : X → Result A SqlState) (xs : List X) (i : ℕ) (x given : X) (held : List A) (s : Stop) → i < length xs → x ≡ get_or xs i x → given ≡ x → Answers (f given) (Err s) → all_values (map f xs) ≡ after held (all_values (map f (drop i xs))) → Answers (all_values (map f xs)) (Err s)
list_stop f xs i x given held (stops.State state) lt at same e so_far = so_far ∙ rows_stop f xs i x held state lt at (ap f (sym same) ∙ e)
list_stop f xs i x given held stops.Memory lt at same e so_far = tt
