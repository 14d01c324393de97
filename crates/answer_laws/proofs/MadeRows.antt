-- The rows that INSERT makes are such that their table may hold.
use Rattle.std.proofs.Common.{◌≡◌, ◌≢◌, ℕ, zero, suc, ◌<◌, Bool, true, false, List, [], ◌∷◌, length, get_or, refl, sym, ap, ◌∙◌, subst, inl, inr, arith}
use Rattle.std.specs.Prelude.{◌⊎◌, if◌then◌else◌, IsSomeAnd, IsUtf8, position, slice_get, unwrap_or, Option, Some, None, option_map, option_and_then}
use Rattle.std.specs.List.{AllByRecursion, AllZip}
use Rattle.std.specs.Option.{option_or}
use Rattle.std.specs.Str.{bytes_eq}
use Rattle.std.proofs.lemmas.Option.{none-some, same_Some, slice_get-get_or}
use Rattle.mr_base.specs.declared.rows.Datum.TheVariants as datums
use Rattle.region_sql.specs.TextLiterals.{IsUtf8Literal}
use Rattle.region_sql.specs.declared.region_statements.Locality.{Locality}
use Rattle.region_sql.specs.declared.region_statements.Locality.TheVariants.{InPrimary, InRegion, ByRow, Global}
use Rattle.region_sql.specs.declared.row_statements.Literal.{Literal}
use Rattle.descriptors.specs.Lists.{has_name}
use Rattle.descriptors.specs.Refusals.{primary_region}
use Rattle.descriptors.specs.Sound.{FitsRegions, IsPrimaryOf, IsSoundDatabase, IsSoundIn}
use Rattle.descriptors.specs.declared.database.Database.{Database}
use Rattle.descriptors.specs.declared.table.Table.{Table}
use Rattle.descriptors.proofs.Found.{named, has_named, same_bytes}
use Rattle.row_locality.specs.Rows.{all_columns, is_by_row, lives_by_row, region_column}
use Rattle.sql_eval.specs.Faults.{column_named, literal_fault, named_literal_fault, row_literals_fault}
use Rattle.sql_eval.specs.RowWords.{datum_of, default_region, given_value, made_row, region_if}
use Rattle.answer_laws.proofs.BuiltLists.{built, first_at, nowhere_at}
use Rattle.answer_laws.proofs.ColumnValues.{Suits, literal_suits}
use Rattle.answer_laws.proofs.Members.{Has, each_has}
use Rattle.answer_laws.proofs.TableColumns.{Column, column_cases, column_of_name}
use Rattle.answer_laws.proofs.NoFaults.{first_none}

-- ---- the region of a row of which none is given

some_regions : (regions : List (List ℕ)) (o : Option Locality) → lives_by_row o ≡ true → FitsRegions regions o → regions ≢ []
some_regions regions None e f = absurd (cc)
some_regions regions (Some InPrimary) e f = absurd (cc)
some_regions regions (Some (InRegion region)) e f = absurd (cc)
some_regions regions (Some ByRow) e f = f
some_regions regions (Some Global) e f = absurd (cc)

first_region : (regions : List (List ℕ)) (primary : Option ℕ) → IsPrimaryOf regions primary → regions ≢ []
    → has_name regions (unwrap_or (option_and_then (slice_get regions) primary) []) ≡ true
first_region regions None p some = absurd (some p)
first_region regions (Some place) p some =
    let at : slice_get regions place ≡ Some (get_or regions place []) = slice_get-get_or regions place [] p in
    rw at (has_named regions (get_or regions place []) (place, p, same regions place (get_or regions place []) p))
  where
    same : (xs : List (List ℕ)) (k : ℕ) (d : List ℕ) → k < length xs → get_or xs k (get_or xs k []) ≡ get_or xs k []
    same [] k d h = absurd (omega arith)
    same (x ∷ xs) zero d h = refl
    same (x ∷ xs) (suc k) d h = same xs k d (omega arith)

default_by : (d : Database) (gateway : List ℕ) (b : Bool) → has_name d.regions gateway ≡ b → has_name d.regions (unwrap_or (primary_region d) []) ≡ true
    → has_name d.regions (if b then gateway else unwrap_or (primary_region d) []) ≡ true
default_by d gateway true e h = e
default_by d gateway false e h = h

-- in a database with regions it is one of them
default_is_region : (d : Database) (gateway : List ℕ) → IsSoundDatabase d → d.regions ≢ [] → has_name d.regions (default_region d gateway) ≡ true
default_is_region d gateway sound some = default_by d gateway (has_name d.regions gateway) refl (first_region d.regions d.primary sound.primary some)

region_text : (d : Database) (region : List ℕ) → IsSoundDatabase d → has_name d.regions region ≡ true → IsUtf8 region
region_text d region sound e =
    let c = named d.regions region e in
    subst IsUtf8 c.2 (sound.regions c.0 region c.1)

-- ---- the value that is given for a column

-- what a row of VALUES for these columns has to be
pub record IsGiven (t : Table) (d : Database) (names : List (List ℕ)) (row : List Literal) : Type 0 where
  pub long : length row ≡ length names
  pub texts : AllByRecursion IsUtf8Literal row
  pub checked : row_literals_fault t d names row ≡ None

-- the literal at the place of a name has no fault
literal_at : (t : Table) (d : Database) (names : List (List ℕ)) (row : List Literal) (k : ℕ) (name : List ℕ) → IsGiven t d names row → slice_get names k ≡ Some name
    → IsSomeAnd (slice_get row k) (λ l. IsUtf8Literal l × (named_literal_fault t d name l ≡ None))
literal_at t d [] row k name g e = absurd (none-some name e)
literal_at t d (n ∷ ns) [] k name g e =
    let long : 0 ≡ length (n ∷ ns) = g.long in
    absurd (omega (arith, long))
literal_at t d (n ∷ ns) (l ∷ ls) zero name g e =
    (g.texts.0, subst (λ (m : List ℕ). named_literal_fault t d m l ≡ None) (same_Some n name e) (first_none _ _ g.checked).0)
literal_at t d (n ∷ ns) (l ∷ ls) (suc k) name g e =
    let long : length (l ∷ ls) ≡ length (n ∷ ns) = g.long in
    literal_at t d ns ls k name (record { long = omega (arith, long); texts = g.texts.1; checked = (first_none _ _ g.checked).1 }) e

given_suits : (t : Table) (d : Database) (c : Column) (o : Option Literal) → column_named t c.0 ≡ Some c
    → IsSomeAnd o (λ l. IsUtf8Literal l × (named_literal_fault t d c.0 l ≡ None)) → IsSomeAnd (option_map datum_of o) (Suits d.regions c)
given_suits t d c None n h = absurd h
given_suits t d c (Some l) n h =
    let e : literal_fault d c l ≡ None = subst (λ (p : Option Column). option_and_then (λ x. literal_fault d x l) p ≡ None) n h.1 in
    literal_suits d c l h.0 e

or_first : {A : Type 0} (P : A → Type 0) (o p : Option A) → IsSomeAnd o P → IsSomeAnd (option_or o p) P
or_first P None p h = absurd h
or_first P (Some x) p h = h

-- the value of a column that the row has, or its region
value_by : (t : Table) (d : Database) (region : List ℕ) (names : List (List ℕ)) (row : List Literal) (c : Column) (o : Option ℕ)
    → position (bytes_eq c.0) names ≡ o → IsGiven t d names row → column_named t c.0 ≡ Some c
    → (has_name names c.0 ≡ true) ⊎ IsSomeAnd (region_if region c.0) (Suits d.regions c)
    → IsSomeAnd (option_or (option_map datum_of (option_and_then (slice_get row) o)) (region_if region c.0)) (Suits d.regions c)
value_by t d region names row c None at g n (inl h) = absurd (cc (h, nowhere_at (bytes_eq c.0) names at))
value_by t d region names row c None at g n (inr h) = h
value_by t d region names row c (Some k) at g n h =
    let f = first_at (bytes_eq c.0) names k at in
    let same : f.0 ≡ c.0 = sym (same_bytes c.0 f.0 f.1.passes) in
    or_first (Suits d.regions c) (option_map datum_of (slice_get row k)) (region_if region c.0)
    (given_suits t d c (slice_get row k) n (literal_at t d names row k c.0 g (f.1.at ∙ ap Some same)))

-- ---- rows

is_region_value : (d : Database) (region : List ℕ) → IsSoundDatabase d → has_name d.regions region ≡ true → Suits d.regions region_column (datums.Text region)
is_region_value d region sound e = record { kind = region_text d region sound e; region = λ r. e }

-- the values of a row that INSERT makes suit the columns
pub made_suits : (t : Table) (d : Database) (gateway : List ℕ) (names : List (List ℕ)) (row : List Literal) → IsSoundIn d t → IsSoundDatabase d
    → AllByRecursion (λ (c : Column). has_name names c.0 ≡ true) t.columns → IsGiven t d names row
    → AllZip (Suits d.regions) (all_columns t) (made_row t (default_region d gateway) names row)
unfolding made_row
made_suits t d gateway names row sound home named' g =
    built (Suits d.regions) (λ (c : Column). option_or (given_value names row c.0) (region_if (default_region d gateway) c.0)) (all_columns t)
    (λ c m. value_by t d (default_region d gateway) names row c (position (bytes_eq c.0) names) refl g (column_of_name t c sound.table m) (by c (column_cases t c m)))
  where
    by : (c : Column) → Has c t.columns ⊎ ((c ≡ region_column) × (is_by_row t ≡ true))
        → (has_name names c.0 ≡ true) ⊎ IsSomeAnd (region_if (default_region d gateway) c.0) (Suits d.regions c)
    by c (inl h) = inl (each_has (λ (x : Column). has_name names x.0 ≡ true) c t.columns named' h)
    by c (inr h) = inr (subst (λ (x : Column). IsSomeAnd (region_if (default_region d gateway) x.0) (Suits d.regions x)) (sym h.0)
        (is_region_value d (default_region d gateway) home (default_is_region d gateway home (some_regions d.regions t.locality h.1 sound.locality))))
