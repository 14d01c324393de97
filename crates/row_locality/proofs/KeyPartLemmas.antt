-- Values that are read from a key are those that were written, and what was written is read again.
use Rattle.std.proofs.Common.{◌≡◌, ℕ, suc, ℤ, pos, negsuc, ◌-◌, ◌+◌, ◌^◌, ◌<◌, Bool, true, false, cond, ltb, eqb, List, [], ◌∷◌, ◌++◌, length, map, get_or, Option, Some, None, refl, sym, ap, subst, ◌∙◌, append_assoc, arith, inl, inr}
use Rattle.std.specs.Prelude.{◌≢◌, ◌==◌, Contains, flat_map, slice_get, unwrap_or, option_and_then, option_map, is_some, FitsSigned}
use Rattle.std.specs.Bool.{Decides}
use Rattle.std.specs.Int.{w64, to_be_bytes}
use Rattle.std.specs.List.{AllZip, position_or_len}
use Rattle.std.specs.Str.{is_utf8}
use Rattle.std.proofs.lemmas.Bool.Decides.{nat_tests}
use Rattle.std.proofs.lemmas.Bool.{eqb-true, eqb-false, cases_lt, lt-ltb, le-ltb}
use Rattle.std.proofs.lemmas.List.{append-nil}
use Rattle.std.proofs.lemmas.List.Sums.{passes_at_first, fails_before_first}
use Rattle.std.proofs.lemmas.Option.{same_Some, slice_get-get_or, slice_get-map}
use Rattle.std.proofs.lemmas.Str.{IsUtf8-from_is_utf8, is_utf8-from_IsUtf8}
use Rattle.mr_base.specs.declared.rows.Datum.{Datum}
use Rattle.mr_base.specs.declared.rows.Datum.TheVariants as datums
use Rattle.region_sql.specs.declared.region_statements.ColumnType.{ColumnType}
use Rattle.region_sql.specs.declared.region_statements.ColumnType.TheVariants as types
use Rattle.descriptors.specs.declared.table.Table.{Table}
use Rattle.row_locality.specs.Rows.{HasType, index_of}
use Rattle.row_locality.specs.Keys.{biased_int, key_part, index_key, types_at, index_types, IsKeyOf}
use Rattle.row_locality.specs.Reading.{int_of_biased, key_int_at, unescaped_at, as_text, key_part_at, key_parts_at, key_values, is_key_of}
use Rattle.row_locality.proofs.ColumnLemmas.{bool_takes, bool_again}
use Rattle.row_locality.proofs.FrontLemmas.{IsBytes, bytes_behind, bytes_rest, passed, chosen, bind_some, map_some, enough, Takes, number_at, wide64, number_takes, number_again}
use Rattle.row_locality.proofs.KeyOrder.{biased_fits, text_bytes, not_zero, plain_byte}
use Rattle.row_locality.proofs.RowLemmas.{ended}

-- ---- INT

biased_back : (n : ℤ) → FitsSigned w64 n → int_of_biased (biased_int n) ≡ n
biased_back (pos n) h = rw (le-ltb (2 ^ 63 + n) (2 ^ 63) (omega arith)) (ap pos (omega arith))
biased_back (negsuc n) h =
    let k : n < 2 ^ 63 = h.sfits in
    rw (lt-ltb (2 ^ 63 - 1 - n) (2 ^ 63) (omega arith)) (ap negsuc (omega arith))

-- an INT of 64 bits that has this biased value
record IsBiased (m : ℕ) (n : ℤ) : Type 0 where
  fits : FitsSigned w64 n
  biased : biased_int n ≡ m

unbiased : (m : ℕ) → m < 2 ^ 64 → IsBiased m (int_of_biased m)
unbiased m h =
    elim (cases_lt m (2 ^ 63)) [
      | inl lt ↦ rw (lt-ltb m (2 ^ 63) lt) (record { fits = record { sfits = omega arith }; biased = omega arith })
      | inr le ↦ rw (le-ltb m (2 ^ 63) le) (record { fits = record { sfits = omega arith }; biased = omega arith })
    ]

abbrev unbiased_pair : ℕ × List ℕ → Datum × List ℕ
unbiased_pair y = (datums.Int (int_of_biased y.0), y.1)

key_int_is : (bytes : List ℕ) → key_int_at bytes ≡ option_map unbiased_pair (number_at w64 bytes)
unfolding key_int_at
key_int_is bytes = enough (ltb (length bytes) 8) unbiased_pair _

key_int_takes : (bytes : List ℕ) (x : Datum × List ℕ) → IsBytes bytes → key_int_at bytes ≡ Some x
    → (n : ℤ) × (datums.Int n ≡ x.0) × FitsSigned w64 n × Takes bytes (to_be_bytes w64 (biased_int n)) x.1
key_int_takes bytes x fits e =
    let m = map_some unbiased_pair (number_at w64 bytes) x (sym (key_int_is bytes) ∙ e) in
    let t = number_takes w64 (2 ^ 64) wide64 bytes m.0 fits m.1 in
    let rest : m.0.1 ≡ x.1 = ap (λ (p : Datum × List ℕ). p.1) m.2 in
    let n = unbiased m.0.0 t.1 in (
      int_of_biased m.0.0,
      ap (λ (p : Datum × List ℕ). p.0) m.2,
      n.fits,
      subst (λ (s : List ℕ). Takes bytes (to_be_bytes w64 (biased_int (int_of_biased m.0.0))) s) rest
          (subst (λ (k : ℕ). Takes bytes (to_be_bytes w64 k) m.0.1) (sym n.biased) t.0),
    )

key_int_again : (n : ℤ) (rest : List ℕ) → FitsSigned w64 n → key_int_at (to_be_bytes w64 (biased_int n) ++ rest) ≡ Some (datums.Int n, rest)
key_int_again n rest fits =
    key_int_is (to_be_bytes w64 (biased_int n) ++ rest) ∙ ap (option_map unbiased_pair) (number_again w64 (2 ^ 64) wide64 (biased_int n) rest (biased_fits n fits))
    ∙ ap (λ (k : ℤ). Some (datums.Int k, rest)) (biased_back n fits)

-- ---- STRING

record IsSome (bytes : List ℕ) : Type 0 where
  first : ℕ
  others : List ℕ
  is : bytes ≡ first ∷ others

some_bytes : (s rest : List ℕ) → IsSome (text_bytes s ++ rest)
some_bytes [] rest = record { first = 0; others = 1 ∷ rest; is = refl }
some_bytes (x ∷ xs) rest = by_first (eqb x 0) refl
  where
    by_first : (b : Bool) → eqb x 0 ≡ b → IsSome (text_bytes (x ∷ xs) ++ rest)
    by_first true e = record { first = 0; others = 255 ∷ (text_bytes xs ++ rest); is = rw e refl }
    by_first false e = record { first = x; others = text_bytes xs ++ rest; is = rw e refl }

plain_read : (before : List ℕ) (x : ℕ) (bytes : List ℕ) → x ≢ 0 → IsSome bytes → unescaped_at before (x ∷ bytes) ≡ unescaped_at (before ++ x ∷ []) bytes
unfolding unescaped_at
plain_read before x bytes h some =
    let one : unescaped_at before (x ∷ some.first ∷ some.others) ≡ unescaped_at (before ++ x ∷ []) (some.first ∷ some.others) = rw (not_zero x h) refl in
    ap (λ (bs : List ℕ). unescaped_at before (x ∷ bs)) some.is ∙ one ∙ ap (unescaped_at (before ++ x ∷ [])) (sym some.is)

zero_read : (before bytes : List ℕ) → unescaped_at before (0 ∷ 255 ∷ bytes) ≡ unescaped_at (before ++ 0 ∷ []) bytes
unfolding unescaped_at
zero_read before bytes = refl

end_read : (before bytes : List ℕ) → unescaped_at before (0 ∷ 1 ∷ bytes) ≡ Some (before, bytes)
unfolding unescaped_at
end_read before bytes = refl

-- a byte in front of a text that is read again
byte_again : (b : Bool) (x : ℕ) (xs before rest : List ℕ) → eqb x 0 ≡ b → unescaped_at (before ++ x ∷ []) (text_bytes xs ++ rest) ≡ Some ((before ++ x ∷ []) ++ xs, rest)
    → unescaped_at before (text_bytes (x ∷ xs) ++ rest) ≡ Some (before ++ x ∷ xs, rest)
byte_again true x xs before rest e again =
    let zero : x ≡ 0 = eqb-true x 0 e in
    let spelled : text_bytes (x ∷ xs) ++ rest ≡ 0 ∷ 255 ∷ (text_bytes xs ++ rest) = ap (λ (y : ℕ). text_bytes (y ∷ xs) ++ rest) zero in
    ap (unescaped_at before) spelled ∙ zero_read before (text_bytes xs ++ rest) ∙ ap (λ (y : ℕ). unescaped_at (before ++ y ∷ []) (text_bytes xs ++ rest)) (sym zero) ∙ again
    ∙ ap (λ (bs : List ℕ). Some (bs, rest)) (append_assoc before (x ∷ []) xs)
byte_again false x xs before rest e again =
    let other : x ≢ 0 = eqb-false x 0 e in
    ap (unescaped_at before) (plain_byte x xs rest other) ∙ plain_read before x (text_bytes xs ++ rest) other (some_bytes xs rest) ∙ again ∙ ap (λ (bs : List ℕ). Some (bs, rest)) (append_assoc before (x ∷ []) xs)

unescaped_again : (s before rest : List ℕ) → unescaped_at before (text_bytes s ++ rest) ≡ Some (before ++ s, rest)
unescaped_again [] before rest = end_read before rest ∙ ap (λ (bs : List ℕ). Some (bs, rest)) (sym (append-nil before))
unescaped_again (x ∷ xs) before rest = byte_again (eqb x 0) x xs before rest refl (unescaped_again xs (before ++ x ∷ []) rest)

-- a text was read up to its end, behind what was read before
record TakesText (before bytes : List ℕ) (x : List ℕ × List ℕ) : Type 0 where
  text : List ℕ
  behind : before ++ text ≡ x.0
  parts : bytes ≡ text_bytes text ++ x.1

zero_then : (before bytes : List ℕ) (b c : ℕ) (x : List ℕ × List ℕ) → b ≡ 0 → c ≡ 255 → TakesText (before ++ 0 ∷ []) bytes x → TakesText before (b ∷ c ∷ bytes) x
zero_then before bytes b c x zero full t = record {
  text = 0 ∷ t.text;
  behind = sym (append_assoc before (0 ∷ []) t.text) ∙ t.behind;
  parts = ap (λ (y : ℕ). y ∷ c ∷ bytes) zero ∙ ap (λ (y : ℕ). 0 ∷ y ∷ bytes) full ∙ ap (λ (bs : List ℕ). 0 ∷ 255 ∷ bs) t.parts;
}

plain_then : (before bytes : List ℕ) (b : ℕ) (x : List ℕ × List ℕ) → b ≢ 0 → TakesText (before ++ b ∷ []) bytes x → TakesText before (b ∷ bytes) x
plain_then before bytes b x other t = record {
  text = b ∷ t.text;
  behind = sym (append_assoc before (b ∷ []) t.text) ∙ t.behind;
  parts = ap (λ (bs : List ℕ). b ∷ bs) t.parts ∙ sym (plain_byte b t.text x.1 other);
}

ends_there : (before bytes : List ℕ) (b c : ℕ) (x : List ℕ × List ℕ) → b ≡ 0 → c ≡ 1 → (before, bytes) ≡ x → TakesText before (b ∷ c ∷ bytes) x
ends_there before bytes b c x zero one is = record {
  text = [];
  behind = append-nil before ∙ ap (λ (y : List ℕ × List ℕ). y.0) is;
  parts = ap (λ (y : ℕ). y ∷ c ∷ bytes) zero ∙ ap (λ (y : ℕ). 0 ∷ y ∷ bytes) one ∙ ap (λ (y : List ℕ × List ℕ). 0 ∷ 1 ∷ y.1) is;
}

unescaped_takes : (before bytes : List ℕ) (x : List ℕ × List ℕ) → unescaped_at before bytes ≡ Some x → TakesText before bytes x
unfolding unescaped_at
unescaped_takes before [] x e = absurd cc
unescaped_takes before (b ∷ []) x e = absurd cc
unescaped_takes before (b ∷ c ∷ bytes) x e =
    elim (chosen (eqb b 0) (cond (eqb c 255) (unescaped_at (before ++ 0 ∷ []) bytes) (cond (eqb c 1) (Some (before, bytes)) None)) (unescaped_at (before ++ b ∷ []) (c ∷ bytes)) x e) [
      | inl zero ↦
          elim (chosen (eqb c 255) (unescaped_at (before ++ 0 ∷ []) bytes) (cond (eqb c 1) (Some (before, bytes)) None) x zero.1) [
            | inl full ↦ zero_then before bytes b c x (eqb-true b 0 zero.0) (eqb-true c 255 full.0) (unescaped_takes (before ++ 0 ∷ []) bytes x full.1)
            | inr short ↦
                let one = passed (eqb c 1) (Some (before, bytes)) x short.1 in
                ends_there before bytes b c x (eqb-true b 0 zero.0) (eqb-true c 1 one.0) (same_Some (before, bytes) x one.1)
          ]
      | inr other ↦ plain_then before (c ∷ bytes) b x (eqb-false b 0 other.0) (unescaped_takes (before ++ b ∷ []) (c ∷ bytes) x other.1)
    ]

-- ---- values

pub record TakesPart (ty : ColumnType) (bytes : List ℕ) (x : Datum × List ℕ) : Type 0 where
  pub typed : HasType ty x.0
  pub taken : Takes bytes (key_part x.0) x.1

text_part_takes : (bytes : List ℕ) (x : Datum × List ℕ) → IsBytes bytes → option_and_then as_text (unescaped_at [] bytes) ≡ Some x → TakesPart types.String bytes x
unfolding key_part
text_part_takes bytes x fits e =
    let b = bind_some (unescaped_at [] bytes) as_text x e in
    let t = unescaped_takes [] bytes b.0 b.1 in
    let utf8 = passed (is_utf8 b.0.0) (Some (datums.Text b.0.0, b.0.1)) x b.2 in
    let is : (datums.Text b.0.0, b.0.1) ≡ x = same_Some (datums.Text b.0.0, b.0.1) x utf8.1 in
    let parts : bytes ≡ text_bytes b.0.0 ++ b.0.1 = t.parts ∙ ap (λ (s : List ℕ). text_bytes s ++ b.0.1) t.behind in
    let rest : IsBytes b.0.1 = bytes_behind (text_bytes b.0.0) b.0.1 (subst IsBytes parts fits) in
    subst (TakesPart types.String bytes) is (record { typed = IsUtf8-from_is_utf8 b.0.0 utf8.0; taken = record { parts = parts; rest_bytes = rest } })

pub key_part_takes : (ty : ColumnType) (bytes : List ℕ) (x : Datum × List ℕ) → IsBytes bytes → key_part_at ty bytes ≡ Some x → TakesPart ty bytes x
unfolding key_part_at key_part
key_part_takes types.Int bytes x fits e =
    let t = key_int_takes bytes x fits e in
    subst (λ (v : Datum). TakesPart types.Int bytes (v, x.1)) t.1 (record { typed = t.2; taken = t.3 })
key_part_takes types.String bytes x fits e = text_part_takes bytes x fits e
key_part_takes types.Bool bytes x fits e =
    let t = bool_takes bytes x fits e in
    subst (λ (v : Datum). TakesPart types.Bool bytes (v, x.1)) t.1 (record { typed = tt; taken = t.2 })

pub key_part_again : (ty : ColumnType) (v : Datum) (rest : List ℕ) → HasType ty v → key_part_at ty (key_part v ++ rest) ≡ Some (v, rest)
unfolding key_part_at key_part
key_part_again types.Int (datums.Int n) rest fits = key_int_again n rest fits
key_part_again types.Int (datums.Text s) rest fits = absurd fits
key_part_again types.Int (datums.Bool b) rest fits = absurd fits
key_part_again types.String (datums.Text s) rest fits = ap (option_and_then as_text) (unescaped_again s [] rest) ∙ rw (is_utf8-from_IsUtf8 s fits) refl
key_part_again types.String (datums.Int n) rest fits = absurd fits
key_part_again types.String (datums.Bool b) rest fits = absurd fits
key_part_again types.Bool (datums.Bool b) rest fits = bool_again b rest
key_part_again types.Bool (datums.Int n) rest fits = absurd fits
key_part_again types.Bool (datums.Text s) rest fits = absurd fits

-- ---- keys

record AreParts (tys : List ColumnType) (before : List Datum) (bytes : List ℕ) (all : List Datum) : Type 0 where
  values : List Datum
  behind : before ++ values ≡ all
  typed : AllZip HasType tys values
  spelled : bytes ≡ flat_map key_part values

key_parts_take : (tys : List ColumnType) (before : List Datum) (bytes : List ℕ) (all : List Datum) → IsBytes bytes → key_parts_at before bytes tys ≡ Some all → AreParts tys before bytes all
unfolding key_parts_at
key_parts_take [] before bytes all fits e =
    let end = ended before all bytes e in
    record { values = []; behind = append-nil before ∙ end.1; typed = tt; spelled = end.0 }
key_parts_take (ty ∷ tys) before bytes all fits e =
    let b = bind_some (key_part_at ty bytes) (λ x. key_parts_at (before ++ x.0 ∷ []) x.1 tys) all e in
    let first = key_part_takes ty bytes b.0 fits b.1 in
    let rest = key_parts_take tys (before ++ b.0.0 ∷ []) b.0.1 all first.taken.rest_bytes b.2 in
    record {
      values = b.0.0 ∷ rest.values;
      behind = sym (append_assoc before (b.0.0 ∷ []) rest.values) ∙ rest.behind;
      typed = (first.typed, rest.typed);
      spelled = first.taken.parts ∙ ap (λ (s : List ℕ). key_part b.0.0 ++ s) rest.spelled;
    }

key_parts_again : (tys : List ColumnType) (before values : List Datum) → AllZip HasType tys values → key_parts_at before (flat_map key_part values) tys ≡ Some (before ++ values)
unfolding key_parts_at
key_parts_again [] before [] typed = ap Some (sym (append-nil before))
key_parts_again [] before (v ∷ values) typed = absurd typed
key_parts_again (ty ∷ tys) before [] typed = absurd typed
key_parts_again (ty ∷ tys) before (v ∷ values) typed =
    ap (option_and_then (λ (x : Datum × List ℕ). key_parts_at (before ++ x.0 ∷ []) x.1 tys)) (key_part_again ty v (flat_map key_part values) typed.0)
    ∙ key_parts_again tys (before ++ v ∷ []) values typed.1 ∙ ap Some (append_assoc before (v ∷ []) values)

-- the values of a key are read from it
pub key_values_again : (t : Table) (number : ℕ) (values : List Datum) → AllZip HasType (index_types t number) values → key_values t number (index_key number values) ≡ Some values
unfolding key_values
key_values_again t number values typed =
    let same : eqb number number ≡ true = grind (arith, nat_tests) in
    rw same (key_parts_again (index_types t number) [] values typed)

is_key : (t : Table) (number : ℕ) (key : List ℕ) → IsBytes key → (o : Option (List Datum)) → key_values t number key ≡ o → is_some o ≡ true → IsKeyOf t number key
unfolding key_values
is_key t number [] fits o e some = absurd (subst (λ (p : Option (List Datum)). is_some p ≡ true → ⊥) e (λ (h : false ≡ true). cc) some)
is_key t number (b ∷ bytes) fits None e some = absurd cc
is_key t number (b ∷ bytes) fits (Some values) e some =
    let p = passed (eqb b number) (key_parts_at [] bytes (index_types t number)) values e in
    let parts = key_parts_take (index_types t number) [] bytes values (bytes_rest b bytes fits) p.1 in
    (parts.values, parts.typed, ap (λ (n : ℕ). n ∷ bytes) (eqb-true b number p.0) ∙ ap (λ (s : List ℕ). number ∷ s) parts.spelled)

-- the test of a key answers as its meaning says
pub is_key_decides : (t : Table) (number : ℕ) (key : List ℕ) → IsBytes key → Decides (is_key_of t number key) (IsKeyOf t number key)
is_key_decides t number key fits = (
  λ e. is_key t number key fits (key_values t number key) refl e,
  λ of_it. ap (λ (k : List ℕ). is_some (key_values t number k)) of_it.2 ∙ ap is_some (key_values_again t number of_it.0 of_it.1),
)

-- ---- what the test of a key says

pub tested_key : (t : Table) (n number : ℕ) (key : List ℕ) (b : Bool) → IsBytes key → n ≡ number → b ≡ is_key_of t n key → b ≡ true → IsKeyOf t number key
tested_key t n number key b fits same test passes = (is_key_decides t number key fits).0 (ap (λ (m : ℕ). is_key_of t m key) (sym same) ∙ sym test ∙ passes)

pub tested_no_key : (t : Table) (n number : ℕ) (key : List ℕ) (b : Bool) → IsBytes key → n ≡ number → b ≡ is_key_of t n key → b ≡ false → IsKeyOf t number key → ⊥
tested_no_key t n number key b fits same test fails of_it =
    let passes : is_key_of t number key ≡ true = (is_key_decides t number key fits).1 of_it in
    let same_test : is_key_of t n key ≡ is_key_of t number key = ap (λ (m : ℕ). is_key_of t m key) same in
    cc

-- ---- the types of an index of one column

is_first : (column : ℕ) (xs : List ℕ) → Contains xs column → slice_get xs (position_or_len (λ c. c == column) xs) ≡ Some column
is_first column xs (k, lt, is) =
    let at = position_or_len (λ c. c == column) xs in
    let itself : eqb column column ≡ true = grind (arith, nat_tests) in
    elim (cases_lt at (length xs)) [
      | inl h ↦ slice_get-get_or xs at column h ∙ ap Some (eqb-true (get_or xs at column) column (passes_at_first (λ c. c == column) xs column h))
      | inr h ↦
          let fails : eqb (get_or xs k column) column ≡ false = fails_before_first (λ c. c == column) xs k column (omega arith) in
          absurd (true≢false' (sym itself ∙ ap (λ (c : ℕ). eqb c column) (sym is) ∙ fails))
    ]
  where
    true≢false' : true ≡ false → ⊥
    true≢false' e = cc

pub index_types_of : (t : Table) (column : ℕ) → Contains t.unique column → index_types t (index_of t column) ≡ types_at t (column ∷ [])
index_types_of t column there =
    let at = position_or_len (λ c. c == column) t.unique in
    let number : index_of t column ≡ suc at = omega arith in
    let single : slice_get (map (λ c. c ∷ []) t.unique) at ≡ Some (column ∷ []) = slice_get-map (λ c. c ∷ []) t.unique at ∙ ap (option_map (λ c. c ∷ [])) (is_first column t.unique there) in
    ap (index_types t) number ∙ ap (λ (o : Option (List ℕ)). unwrap_or (option_map (types_at t) o) []) single
