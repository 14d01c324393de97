-- What the order of keys says of them.
use Rattle.std.proofs.Common.{◌≡◌, ℕ, List, [], ◌++◌, sym, ap, ◌∙◌}
use Rattle.std.specs.Prelude.{flat_map}
use Rattle.std.specs.Cmp.{tied_itself, nat_cmp_total}
use Rattle.std.specs.List.{AllZip}
use Rattle.std.specs.Ordering.{ordering_then}
use Rattle.std.specs.declared.cmp.Ordering.TheVariants.{Equal}
use Rattle.std.proofs.lemmas.Cmp.{nat_list_cmp_total}
use Rattle.std.proofs.lemmas.List.{append-nil}
use Rattle.std.proofs.lemmas.Map.Lookups.{exact_bytes}
use Rattle.mr_base.specs.declared.rows.Datum.{Datum}
use Rattle.region_sql.specs.declared.region_statements.ColumnType.{ColumnType}
use Rattle.row_locality.specs.Rows.{HasType, key_cmp}
use Rattle.row_locality.specs.Keys.{key_part, index_key, index_types}
use Rattle.row_locality.specs.KeyLaws.{KeysOrderAsValues, EqualKeysHaveEqualValues, NoKeyBeginsAnother}
use Rattle.row_locality.specs.Pairs.{bytes_cmp}
use Rattle.row_locality.proofs.DatumOrder.{or_equal, both_equal, key_cmp_exact}
use Rattle.row_locality.proofs.KeyOrder.{parts_order}

pub keys_order : KeysOrderAsValues
keys_order types xs ys p q number a b = rw (tied_itself nat_cmp_total number) (parts_order types xs ys a b p q)

-- keys by themselves order as their values
pub key_order : (types : List ColumnType) (xs ys : List Datum) → AllZip HasType types xs → AllZip HasType types ys → (number : ℕ)
    → bytes_cmp (index_key number xs) (index_key number ys) ≡ key_cmp xs ys
key_order types xs ys p q number =
    let e : bytes_cmp (flat_map key_part xs ++ []) (flat_map key_part ys ++ []) ≡ ordering_then (key_cmp xs ys) Equal = parts_order types xs ys [] [] p q in
    rw (tied_itself nat_cmp_total number) ((rw (append-nil (flat_map key_part xs), append-nil (flat_map key_part ys)) at e) ∙ or_equal (key_cmp xs ys))

-- equal bytes are of equal values, whatever follows
pub same_values : (types : List ColumnType) (xs ys : List Datum) → AllZip HasType types xs → AllZip HasType types ys → (a b : List ℕ)
    → flat_map key_part xs ++ a ≡ flat_map key_part ys ++ b → (xs ≡ ys) × (a ≡ b)
same_values types xs ys p q a b e =
    let same : bytes_cmp (flat_map key_part xs ++ a) (flat_map key_part ys ++ b) ≡ Equal = rw e (tied_itself nat_list_cmp_total (flat_map key_part ys ++ b)) in
    let both = both_equal (key_cmp xs ys) (bytes_cmp a b) (sym (parts_order types xs ys a b p q) ∙ same) in
    (key_cmp_exact xs ys both.0, exact_bytes a b both.1)

pub equal_keys : EqualKeysHaveEqualValues
equal_keys types xs ys p q number e =
    let rest : flat_map key_part xs ≡ flat_map key_part ys = cc in
    (same_values types xs ys p q [] [] (ap (λ (s : List ℕ). s ++ []) rest)).0

-- the first byte of a key tells its index
pub same_index : (m n : ℕ) (xs ys : List Datum) (a b : List ℕ) → index_key m xs ++ a ≡ index_key n ys ++ b → m ≡ n
same_index m n xs ys a b e = cc

-- a key of an index that begins another is that key
begins_itself : (types : List ColumnType) (n : ℕ) (xs ys : List Datum) → AllZip HasType types xs → AllZip HasType types ys → (rest : List ℕ)
    → index_key n xs ++ rest ≡ index_key n ys → rest ≡ []
begins_itself types n xs ys p q rest e =
    let tail : flat_map key_part xs ++ rest ≡ flat_map key_part ys = cc in
    (same_values types xs ys p q rest [] (tail ∙ sym (append-nil (flat_map key_part ys)))).1

pub no_key_begins_another : NoKeyBeginsAnother
no_key_begins_another t m n key other rest (xs, p, key-is) (ys, q, other-is) e =
    let whole : index_key m xs ++ rest ≡ index_key n ys = ap (λ (k : List ℕ). k ++ rest) (sym key-is) ∙ e ∙ other-is in
    let same : m ≡ n = cc in
    let q' : AllZip HasType (index_types t m) ys = rw same q in
    (same, begins_itself (index_types t m) m xs ys p q' rest (whole ∙ ap (λ k. index_key k ys) (sym same)))
