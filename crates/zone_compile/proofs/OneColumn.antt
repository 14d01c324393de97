-- Names of ASCII, and a table of one column.
use Rattle.std.proofs.Common.{◌≡◌, ◌≢◌, ℕ, zero, suc, ◌<◌, List, [], ◌∷◌, true, false, codes, refl, arith}
use Rattle.std.specs.Prelude.{Bool, ◌&&◌, nat_lt, AllPairs, IsUtf8}
use Rattle.std.specs.List.{list_all}
use Rattle.std.specs.Str.{IsAscii, bytes_eq}
use Rattle.std.proofs.lemmas.Bool.Decides.{nat_tests}
use Rattle.std.proofs.lemmas.List.Elements.{All-cons, All-nil}
use Rattle.std.proofs.lemmas.Slice.Eq.{bytes_eq-Decides}
use Rattle.std.proofs.lemmas.Str.{IsUtf8-from_ascii}
use Rattle.region_sql.specs.declared.region_statements.ColumnType.TheVariants.{Int}
use Rattle.descriptors.specs.declared.table.Table.{Table}
use Rattle.descriptors.specs.Sound.{IsSoundTable}

both : (a b : Bool) → (a && b) ≡ true → (a ≡ true) × (b ≡ true)
both true b e = (refl, e)
both false b e = cc

ascii_of : (bs : List ℕ) → list_all (λ b. nat_lt b 128) bs ≡ true → IsAscii bs
ascii_of [] e i = omega arith
ascii_of (b ∷ bs) e zero = let here = (both (nat_lt b 128) (list_all (λ x. nat_lt x 128) bs) e).0 in grind (arith, nat_tests)
ascii_of (b ∷ bs) e (suc i) = ascii_of bs (both (nat_lt b 128) (list_all (λ x. nat_lt x 128) bs) e).1 i

pub text_of : (bs : List ℕ) → list_all (λ b. nat_lt b 128) bs ≡ true → IsUtf8 bs
text_of bs e = IsUtf8-from_ascii bs (ascii_of bs e)

pub differ : (a b : List ℕ) → bytes_eq a b ≡ false → a ≢ b
differ a b other e = let yes = (bytes_eq-Decides a b).1 e in cc

pub one_pairs : {A : Type 0} (R : A → A → Type 0) (a : A) → AllPairs R (a ∷ [])
one_pairs R a i j d low high = absurd (omega arith)

pub name_is_text : IsUtf8 (codes "d")
name_is_text = text_of (codes "d") refl

pub one_column_is_sound : (t : Table) → t.name ≡ codes "t" → t.columns ≡ (codes "id", Int) ∷ [] → t.key ≡ 0 ∷ [] → t.unique ≡ [] → IsSoundTable t
one_column_is_sound t name columns key unique = record {
  name = rw name (text_of (codes "t") refl);
  columns = rw columns (All-cons (λ c. IsUtf8 c.0) _ [] (text_of (codes "id") refl) (All-nil (λ c. IsUtf8 c.0)));
  some = rw columns (omega arith);
  few = rw columns (omega arith);
  named = rw columns (one_pairs (λ x y. x ≢ y) (codes "id"));
  not_hidden = rw columns (All-cons (λ c. c.0 ≢ codes "crdb_region") _ [] (differ (codes "id") (codes "crdb_region") refl) (All-nil (λ c. c.0 ≢ codes "crdb_region")));
  key = rw key (omega arith);
  key_distinct = rw key (one_pairs (λ x y. x ≢ y) 0);
  key_places = rw (key, columns) (All-cons (λ k. k < 1) 0 [] (omega arith) (All-nil (λ k. k < 1)));
  unique_rises = rw unique (λ i j d low high. absurd (omega arith));
  unique_places = rw unique (λ k d high. absurd (omega arith));
}
