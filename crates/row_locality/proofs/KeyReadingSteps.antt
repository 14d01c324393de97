-- Steps of the loops that read keys.
use Rattle.std.proofs.Common.{◌≡◌, ℕ, suc, ◌+◌, ◌-◌, ◌<◌, ◌≤◌, Bool, true, false, cond, eqb, List, [], ◌∷◌, ◌++◌, length, take, drop, get_or, Option, Some, None, Err, refl, sym, ap, ◌∙◌, arith, inl, inr}
use Rattle.std.specs.Prelude.{slice_get, option_and_then, is_some}
use Rattle.std.proofs.lemmas.Bool.Decides.{nat_tests}
use Rattle.std.proofs.lemmas.List.{drop_more, drop_all, take_rest}
use Rattle.mr_base.specs.declared.rows.Datum.{Datum}
use Rattle.region_sql.specs.declared.region_statements.ColumnType.{ColumnType}
use Rattle.descriptors.specs.declared.table.Table.{Table}
use Rattle.row_locality.specs.declared.decode_fault.DecodeFault.{DecodeFault}
use Rattle.row_locality.specs.declared.decode_fault.DecodeFault.TheVariants as faults
use Rattle.row_locality.specs.Decoding.{Reads}
use Rattle.row_locality.specs.KeyPieces.{piece_at, rest_of, rest_of_parts}
use Rattle.row_locality.specs.Keys.{index_types, types_at}
use Rattle.row_locality.specs.Reading.{unescaped_at, key_part_at, at_end, key_parts_at, key_values, is_key_of}
use Rattle.row_locality.proofs.FrontLemmas.{chosen, passed}

-- ---- the bytes of a text

abbrev after_piece : List ℕ → Option ℕ → List ℕ → Option (List ℕ × List ℕ)
after_piece text None rest = Some (text, rest)
after_piece text (Some b) rest = unescaped_at (text ++ b ∷ []) rest

spread : (p q r : Bool) {A B : Type 0} (f : A → Option B) (x y z : A) → cond p (cond q (f x) (cond r (f y) None)) (f z) ≡ option_and_then f (cond p (cond q (Some x) (cond r (Some y) None)) (Some z))
spread true true r f x y z = refl
spread true false true f x y z = refl
spread true false false f x y z = refl
spread false q r f x y z = refl

by_pieces : (text rest : List ℕ) → unescaped_at text rest ≡ option_and_then (λ x. after_piece text x.0 x.1) (piece_at rest)
unfolding unescaped_at piece_at
by_pieces text [] = refl
by_pieces text (b ∷ []) = refl
by_pieces text (b ∷ c ∷ bytes) =
    spread (eqb b 0) (eqb c 255) (eqb c 1) (λ (x : Option ℕ × List ℕ). after_piece text x.0 x.1) (Some 0, bytes) (None, bytes) (Some b, c ∷ bytes)

pub byte_read : (text rest : List ℕ) (b : ℕ) (piece : Option ℕ) (after longer : List ℕ) (total : Option (List ℕ × List ℕ)) → piece_at rest ≡ Some (piece, after) → piece ≡ Some b → longer ≡ text ++ b ∷ []
    → unescaped_at text rest ≡ total → unescaped_at longer after ≡ total
byte_read text rest b piece after longer total read is longer-is so_far =
    let step : unescaped_at text rest ≡ after_piece text (Some b) after = by_pieces text rest ∙ ap (option_and_then (λ (x : Option ℕ × List ℕ). after_piece text x.0 x.1)) (read ∙ ap (λ (o : Option ℕ). Some (o, after)) is) in
    ap (λ (s : List ℕ). unescaped_at s after) longer-is ∙ sym step ∙ so_far

pub text_ended : (text rest : List ℕ) (piece : Option ℕ) (after : List ℕ) (total : Option (List ℕ × List ℕ)) → piece_at rest ≡ Some (piece, after) → piece ≡ None
    → unescaped_at text rest ≡ total → total ≡ Some (text, after)
text_ended text rest piece after total read is so_far =
    let step : unescaped_at text rest ≡ after_piece text None after = by_pieces text rest ∙ ap (option_and_then (λ (x : Option ℕ × List ℕ). after_piece text x.0 x.1)) (read ∙ ap (λ (o : Option ℕ). Some (o, after)) is) in
    sym so_far ∙ step

pub piece_fault : {X Y : Type 0} (view : X → Option ℕ × List ℕ) (seen : Y → List ℕ × List ℕ) (f : DecodeFault) (text rest : List ℕ) (total : Option (List ℕ × List ℕ)) → Reads view (Err f) (piece_at rest)
    → unescaped_at text rest ≡ total → Reads seen (Err f) total
piece_fault view seen faults.Malformed text rest total read so_far = sym so_far ∙ by_pieces text rest ∙ ap (option_and_then (λ (x : Option ℕ × List ℕ). after_piece text x.0 x.1)) read
piece_fault view seen faults.Memory text rest total read so_far = tt

shorter_by : (b c : ℕ) (bytes : List ℕ) (x : Option ℕ × List ℕ) → piece_at (b ∷ c ∷ bytes) ≡ Some x → length x.1 ≤ suc (length bytes)
unfolding piece_at
shorter_by b c bytes x e =
    elim (chosen (eqb b 0) (cond (eqb c 255) (Some (Some 0, bytes)) (cond (eqb c 1) (Some (None, bytes)) None)) (Some (Some b, c ∷ bytes)) x e) [
      | inl zero ↦
          elim (chosen (eqb c 255) (Some (Some 0, bytes)) (cond (eqb c 1) (Some (None, bytes)) None) x zero.1) [
            | inl full ↦ let same : bytes ≡ x.1 = cc in omega (arith, ap length same)
            | inr short ↦
                let one = passed (eqb c 1) (Some (None, bytes)) x short.1 in
                let same : bytes ≡ x.1 = cc in
                omega (arith, ap length same)
          ]
      | inr other ↦ let same : c ∷ bytes ≡ x.1 = cc in omega (arith, ap length same)
    ]

pub piece_shorter : (rest : List ℕ) (x : Option ℕ × List ℕ) → piece_at rest ≡ Some x → length x.1 < length rest
unfolding piece_at
piece_shorter [] x e = absurd cc
piece_shorter (b ∷ []) x e = absurd cc
piece_shorter (b ∷ c ∷ bytes) x e = omega (arith, shorter_by b c bytes x e)

-- ---- the values of a key

types_first : (t : Table) (place : ℕ) (places : List ℕ) → types_at t (place ∷ places) ≡ types_at t (place ∷ []) ++ types_at t places
types_first t place places = by_column (slice_get t.columns place) refl
  where
    by_column : (o : Option (List ℕ × ColumnType)) → slice_get t.columns place ≡ o → types_at t (place ∷ places) ≡ types_at t (place ∷ []) ++ types_at t places
    by_column None e = rw e refl
    by_column (Some c) e = rw e refl

through : (xs ys : List ColumnType) (o : Option (List ℕ)) → ((rest : List ℕ) → rest_of_parts rest (xs ++ ys) ≡ option_and_then (λ after. rest_of_parts after ys) (rest_of_parts rest xs))
    → option_and_then (λ rest. rest_of_parts rest (xs ++ ys)) o ≡ option_and_then (λ rest. rest_of_parts rest ys) (option_and_then (λ rest. rest_of_parts rest xs) o)
through xs ys None both = refl
through xs ys (Some rest) both = both rest

rest_of_both : (xs ys : List ColumnType) (bytes : List ℕ) → rest_of_parts bytes (xs ++ ys) ≡ option_and_then (λ rest. rest_of_parts rest ys) (rest_of_parts bytes xs)
unfolding rest_of_parts
rest_of_both [] ys bytes = refl
rest_of_both (ty ∷ xs) ys bytes = through xs ys (rest_of (key_part_at ty bytes)) (λ rest. rest_of_both xs ys rest)

at_place : (t : Table) (rest : List ℕ) (places : List ℕ) (i : ℕ) → i < length places
    → rest_of_parts rest (types_at t (drop i places)) ≡ option_and_then (λ after. rest_of_parts after (types_at t (drop (i + 1) places))) (rest_of_parts rest (types_at t (get_or places i 0 ∷ [])))
at_place t rest places i h =
    ap (λ (ps : List ℕ). rest_of_parts rest (types_at t ps)) (drop_more places i 0 h) ∙ ap (rest_of_parts rest) (types_first t (get_or places i 0) (drop (i + 1) places))
    ∙ rest_of_both (types_at t (get_or places i 0 ∷ [])) (types_at t (drop (i + 1) places)) rest

pub place_read : (t : Table) (rest : List ℕ) (places : List ℕ) (i : ℕ) (after : List ℕ) (total : Option (List ℕ)) → i < length places → rest_of_parts rest (types_at t (get_or places i 0 ∷ [])) ≡ Some after
    → rest_of_parts rest (types_at t (drop i places)) ≡ total → rest_of_parts after (types_at t (drop (i + 1) places)) ≡ total
place_read t rest places i after total h read so_far =
    sym (at_place t rest places i h ∙ ap (option_and_then (λ (s : List ℕ). rest_of_parts s (types_at t (drop (i + 1) places)))) read) ∙ so_far

pub place_fault : {X Y : Type 0} (view : X → List ℕ) (seen : Y → List ℕ) (f : DecodeFault) (t : Table) (rest : List ℕ) (places : List ℕ) (i : ℕ) (total : Option (List ℕ)) → i < length places
    → Reads view (Err f) (rest_of_parts rest (types_at t (get_or places i 0 ∷ []))) → rest_of_parts rest (types_at t (drop i places)) ≡ total → Reads seen (Err f) total
place_fault view seen faults.Malformed t rest places i total h read so_far =
    sym so_far ∙ at_place t rest places i h ∙ ap (option_and_then (λ (s : List ℕ). rest_of_parts s (types_at t (drop (i + 1) places)))) read
place_fault view seen faults.Memory t rest places i total h read so_far = tt

pub places_ended : (t : Table) (rest : List ℕ) (places : List ℕ) (i : ℕ) (total : Option (List ℕ)) → length places ≤ i → rest_of_parts rest (types_at t (drop i places)) ≡ total → total ≡ Some rest
unfolding rest_of_parts
places_ended t rest places i total h so_far = sym so_far ∙ ap (λ (ps : List ℕ). rest_of_parts rest (types_at t ps)) (drop_all i places h)

-- ---- whole keys

abbrev ends : Option (List ℕ) → Bool
ends None = false
ends (Some rest) = eqb (length rest) 0

some_left : (values : List Datum) (bytes : List ℕ) → is_some (at_end values bytes) ≡ eqb (length bytes) 0
some_left values [] = refl
some_left values (b ∷ bytes) = grind (arith, nat_tests)

behind_part : (tys : List ColumnType) (values : List Datum) (o : Option (Datum × List ℕ)) → ((vs : List Datum) (rest : List ℕ) → is_some (key_parts_at vs rest tys) ≡ ends (rest_of_parts rest tys))
    → is_some (option_and_then (λ x. key_parts_at (values ++ x.0 ∷ []) x.1 tys) o) ≡ ends (option_and_then (λ rest. rest_of_parts rest tys) (rest_of o))
behind_part tys values None each = refl
behind_part tys values (Some x) each = each (values ++ x.0 ∷ []) x.1

parts_rest : (tys : List ColumnType) (values : List Datum) (bytes : List ℕ) → is_some (key_parts_at values bytes tys) ≡ ends (rest_of_parts bytes tys)
unfolding key_parts_at rest_of_parts
parts_rest [] values bytes = some_left values bytes
parts_rest (ty ∷ tys) values bytes = behind_part tys values (key_part_at ty bytes) (λ vs rest. parts_rest tys vs rest)

pub no_key : (t : Table) (number : ℕ) (key : List ℕ) → length key < 1 → false ≡ is_key_of t number key
unfolding key_values
no_key t number [] h = refl
no_key t number (b ∷ key) h = absurd (omega arith)

pub other_key : (t : Table) (number : ℕ) (key : List ℕ) → 1 ≤ length key → (get_or key 0 0 ≡ number → ⊥) → false ≡ is_key_of t number key
unfolding key_values
other_key t number [] h other = absurd (omega arith)
other_key t number (b ∷ key) h other =
    let not_it : eqb b number ≡ false = grind (arith, nat_tests) in
    rw not_it refl

same_key : (t : Table) (number : ℕ) (b : ℕ) (bytes : List ℕ) → b ≡ number → is_key_of t number (b ∷ bytes) ≡ ends (rest_of_parts bytes (index_types t number))
unfolding key_values
same_key t number b bytes it =
    let yes : eqb b number ≡ true = grind (arith, nat_tests) in
    rw yes (parts_rest (index_types t number) [] bytes)

pub key_ended : (t : Table) (number : ℕ) (tys : List ColumnType) (key rest : List ℕ) (empty : Bool) → 1 ≤ length key → get_or key 0 0 ≡ number → index_types t number ≡ tys
    → rest_of_parts (take (length key - 1) (drop 1 key)) tys ≡ Some rest → empty ≡ eqb (length rest) 0 → empty ≡ is_key_of t number key
key_ended t number tys [] rest empty h it same read is = absurd (omega arith)
key_ended t number tys (b ∷ key) rest empty h it same read is =
    is ∙ sym (same_key t number b key it ∙ ap (λ (ts : List ColumnType). ends (rest_of_parts key ts)) same ∙ ap (λ (bytes : List ℕ). ends (rest_of_parts bytes tys)) (sym (take_rest (b ∷ key) 1)) ∙ ap ends read)

pub key_broken : (t : Table) (number : ℕ) (tys : List ColumnType) (key : List ℕ) → 1 ≤ length key → get_or key 0 0 ≡ number → index_types t number ≡ tys
    → rest_of_parts (take (length key - 1) (drop 1 key)) tys ≡ None → false ≡ is_key_of t number key
key_broken t number tys [] h it same read = absurd (omega arith)
key_broken t number tys (b ∷ key) h it same read =
    sym (same_key t number b key it ∙ ap (λ (ts : List ColumnType). ends (rest_of_parts key ts)) same ∙ ap (λ (bytes : List ℕ). ends (rest_of_parts bytes tys)) (sym (take_rest (b ∷ key) 1)) ∙ ap ends read)
