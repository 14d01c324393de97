-- The bytes of a value in a key order as the value does, whatever follows them.
use Rattle.std.proofs.Common.{◌≡◌, ℕ, zero, suc, ℤ, pos, negsuc, ◌+◌, ◌*◌, ◌-◌, ◌%◌, ◌^◌, ◌<◌, Bool, true, false, List, [], ◌∷◌, ◌++◌, refl, sym, ap, ◌∙◌, inl, inr, arith, w64, append_assoc, pow-suc, mul_comm, eqb}
use Rattle.std.specs.Prelude.{flat_map, ◌≢◌, FitsSigned}
use Rattle.std.specs.Cmp.Lexicographic.{slice_cmp}
use Rattle.std.specs.Cmp.{tied_itself, nat_cmp_total, nat_cmp_is}
use Rattle.std.specs.Int.{byte_at, bytes_high_first, to_be_bytes}
use Rattle.std.specs.List.{AllZip}
use Rattle.std.specs.Ordering.{nat_cmp, int_cmp, bool_cmp, ordering_then}
use Rattle.std.specs.declared.cmp.Ordering.{Ordering}
use Rattle.std.specs.declared.cmp.Ordering.TheVariants.{Less, Equal, Greater}
use Rattle.std.proofs.Math.Arith.{mod-mul}
use Rattle.std.proofs.Math.Nat.{pow-le-pow_right}
use Rattle.std.proofs.lemmas.Bool.{cases_eq, cases_order}
use Rattle.std.proofs.lemmas.Bool.Decides.{nat_tests}
use Rattle.std.proofs.lemmas.Nat.{mul-add-lt, mod_below}
use Rattle.mr_base.specs.declared.rows.Datum.{Datum}
use Rattle.mr_base.specs.declared.rows.Datum.TheVariants as datums
use Rattle.region_sql.specs.declared.region_statements.ColumnType.{ColumnType}
use Rattle.region_sql.specs.declared.region_statements.ColumnType.TheVariants as types
use Rattle.row_locality.specs.Rows.{HasType, datum_cmp, key_cmp}
use Rattle.row_locality.specs.Keys.{biased_int, escaped_byte, key_part}
use Rattle.row_locality.specs.Pairs.{bytes_cmp}

then_assoc : (p q r : Ordering) → ordering_then p (ordering_then q r) ≡ ordering_then (ordering_then p q) r
then_assoc Less q r = refl
then_assoc Equal q r = refl
then_assoc Greater q r = refl

less : (m n : ℕ) → m < n → nat_cmp m n ≡ Less
less m n h = sym (nat_cmp_is m n Less h)

greater : (m n : ℕ) → n < m → nat_cmp m n ≡ Greater
greater m n h = sym (nat_cmp_is m n Greater h)

same : (n : ℕ) → nat_cmp n n ≡ Equal
same n = tied_itself nat_cmp_total n

-- ---- numbers

-- of two numbers in a base the higher places decide
places : (u a b r s : ℕ) → r < u → s < u → nat_cmp (a * u + r) (b * u + s) ≡ ordering_then (nat_cmp a b) (nat_cmp r s)
places u a b r s p q =
    elim (cases_order a b) [
      | inl e ↦ rw (e, same b) (of_rest b)
      | inr (inl h) ↦ rw (less a b h) (less (a * u + r) (b * u + s) (omega (arith, mul-add-lt a u r b h p, mul_comm u b)))
      | inr (inr h) ↦ rw (greater a b h) (greater (a * u + r) (b * u + s) (omega (arith, mul-add-lt b u s a h q, mul_comm u a)))
    ]
  where
    of_rest : (b : ℕ) → nat_cmp (b * u + r) (b * u + s) ≡ nat_cmp r s
    of_rest b =
        elim (cases_order r s) [
          | inl e ↦ rw (e, same s) (same (b * u + s))
          | inr (inl h) ↦ rw (less r s h) (less (b * u + r) (b * u + s) (omega arith))
          | inr (inr h) ↦ rw (greater r s h) (greater (b * u + r) (b * u + s) (omega arith))
        ]

low_bytes : (k n : ℕ) → n % 256 ^ suc k ≡ byte_at k n * 256 ^ k + n % 256 ^ k
low_bytes zero n = omega arith
low_bytes (suc k) n =
    let wider : 256 ^ suc (suc k) ≡ 256 * 256 ^ suc k = pow-suc 256 (suc k) ∙ mul_comm (256 ^ suc k) 256 in
    let some : 0 < 256 ^ suc k = pow-le-pow_right {n = 256} (omega arith) {i = 0} {j = suc k} (omega arith) in
    rw wider (mod-mul n {m = 256} {c = 256 ^ suc k} (omega arith) some)

number_order : (k m n : ℕ) (a b : List ℕ) → bytes_cmp (bytes_high_first k m ++ a) (bytes_high_first k n ++ b) ≡ ordering_then (nat_cmp (m % 256 ^ k) (n % 256 ^ k)) (bytes_cmp a b)
number_order zero m n a b =
    let p : m % 256 ^ 0 ≡ 0 = omega arith in
    let q : n % 256 ^ 0 ≡ 0 = omega arith in
    rw (p, q) refl
number_order (suc k) m n a b =
    let some : 0 < 256 ^ k = pow-le-pow_right {n = 256} (omega arith) {i = 0} {j = k} (omega arith) in
    let both : nat_cmp (m % 256 ^ suc k) (n % 256 ^ suc k) ≡ ordering_then (nat_cmp (byte_at k m) (byte_at k n)) (nat_cmp (m % 256 ^ k) (n % 256 ^ k)) =
    rw (low_bytes k m, low_bytes k n) (places (256 ^ k) (byte_at k m) (byte_at k n) (m % 256 ^ k) (n % 256 ^ k) (mod_below m (256 ^ k) some) (mod_below n (256 ^ k) some)) in
    ap (ordering_then (nat_cmp (byte_at k m) (byte_at k n))) (number_order k m n a b) ∙ then_assoc (nat_cmp (byte_at k m) (byte_at k n)) (nat_cmp (m % 256 ^ k) (n % 256 ^ k)) (bytes_cmp a b)
    ∙ ap (λ (o : Ordering). ordering_then o (bytes_cmp a b)) (sym both)

-- ---- INT

pub biased_fits : (n : ℤ) → FitsSigned w64 n → biased_int n < 2 ^ 64
biased_fits (pos n) h = omega (arith, h)
biased_fits (negsuc n) h = omega (arith, h)

biased_order : (m n : ℤ) → FitsSigned w64 m → FitsSigned w64 n → nat_cmp (biased_int m) (biased_int n) ≡ int_cmp m n
biased_order (pos a) (pos b) p q = grind (arith, nat_tests)
biased_order (pos a) (negsuc b) p q = greater (2 ^ 63 + a) (2 ^ 63 - 1 - b) (omega (arith, p, q))
biased_order (negsuc a) (pos b) p q = less (2 ^ 63 - 1 - a) (2 ^ 63 + b) (omega (arith, p, q))
biased_order (negsuc a) (negsuc b) p q =
    let h : a < 2 ^ 63 = p.sfits in
    let k : b < 2 ^ 63 = q.sfits in
    grind (arith, nat_tests)

int_order : (m n : ℤ) (a b : List ℕ) → FitsSigned w64 m → FitsSigned w64 n → bytes_cmp (to_be_bytes w64 (biased_int m) ++ a) (to_be_bytes w64 (biased_int n) ++ b) ≡ ordering_then (int_cmp m n) (bytes_cmp a b)
int_order m n a b p q =
    let x : biased_int m % 256 ^ 8 ≡ biased_int m = omega (arith, biased_fits m p) in
    let y : biased_int n % 256 ^ 8 ≡ biased_int n = omega (arith, biased_fits n q) in
    number_order 8 (biased_int m) (biased_int n) a b ∙ ap (λ (o : Ordering). ordering_then o (bytes_cmp a b)) (rw (x, y) (biased_order m n p q))

-- ---- STRING

abbrev pub text_bytes : List ℕ → List ℕ
text_bytes s = flat_map escaped_byte s ++ 0 ∷ 1 ∷ []

pub not_zero : (x : ℕ) → x ≢ 0 → eqb x 0 ≡ false
not_zero x h = grind (arith, nat_tests)

pub plain_byte : (x : ℕ) (xs a : List ℕ) → x ≢ 0 → text_bytes (x ∷ xs) ++ a ≡ x ∷ (text_bytes xs ++ a)
plain_byte x xs a h = rw (not_zero x h) refl

text_order : (r s a b : List ℕ) → bytes_cmp (text_bytes r ++ a) (text_bytes s ++ b) ≡ ordering_then (slice_cmp nat_cmp r s) (bytes_cmp a b)
text_order [] [] a b = refl
text_order [] (y ∷ ys) a b =
    elim (cases_eq y 0) [
      | inl e ↦ rw e refl
      | inr h ↦ rw (plain_byte y ys b h, less 0 y (omega (arith, h))) refl
    ]
text_order (x ∷ xs) [] a b =
    elim (cases_eq x 0) [
      | inl e ↦ rw e refl
      | inr h ↦ rw (plain_byte x xs a h, greater x 0 (omega (arith, h))) refl
    ]
text_order (x ∷ xs) (y ∷ ys) a b =
    elim (cases_eq x 0) [
      | inl e ↦
          elim (cases_eq y 0) [
            | inl f ↦ rw (e, f) (text_order xs ys a b)
            | inr k ↦ rw (e, plain_byte y ys b k, less 0 y (omega (arith, k))) refl
          ]
      | inr h ↦
          elim (cases_eq y 0) [
            | inl f ↦ rw (f, plain_byte x xs a h, greater x 0 (omega (arith, h))) refl
            | inr k ↦ rw (plain_byte x xs a h, plain_byte y ys b k) (ap (ordering_then (nat_cmp x y)) (text_order xs ys a b) ∙ then_assoc (nat_cmp x y) (slice_cmp nat_cmp xs ys) (bytes_cmp a b))
          ]
    ]

-- ---- values

bool_order : (p q : Bool) (a b : List ℕ) → bytes_cmp (key_part (datums.Bool p) ++ a) (key_part (datums.Bool q) ++ b) ≡ ordering_then (bool_cmp p q) (bytes_cmp a b)
unfolding key_part
bool_order false false a b = refl
bool_order false true a b = refl
bool_order true false a b = refl
bool_order true true a b = refl

-- a value decides by its bytes, and where two are equal, what follows decides
pub part_order : (ty : ColumnType) (v w : Datum) (a b : List ℕ) → HasType ty v → HasType ty w → bytes_cmp (key_part v ++ a) (key_part w ++ b) ≡ ordering_then (datum_cmp v w) (bytes_cmp a b)
unfolding key_part
part_order types.Int (datums.Int m) (datums.Int n) a b p q = int_order m n a b p q
part_order types.Int (datums.Int m) (datums.Text s) a b p q = absurd q
part_order types.Int (datums.Int m) (datums.Bool s) a b p q = absurd q
part_order types.Int (datums.Text r) w a b p q = absurd p
part_order types.Int (datums.Bool r) w a b p q = absurd p
part_order types.String (datums.Text r) (datums.Text s) a b p q = text_order r s a b
part_order types.String (datums.Text r) (datums.Int s) a b p q = absurd q
part_order types.String (datums.Text r) (datums.Bool s) a b p q = absurd q
part_order types.String (datums.Int r) w a b p q = absurd p
part_order types.String (datums.Bool r) w a b p q = absurd p
part_order types.Bool (datums.Bool r) (datums.Bool s) a b p q = bool_order r s a b
part_order types.Bool (datums.Bool r) (datums.Int s) a b p q = absurd q
part_order types.Bool (datums.Bool r) (datums.Text s) a b p q = absurd q
part_order types.Bool (datums.Int r) w a b p q = absurd p
part_order types.Bool (datums.Text r) w a b p q = absurd p

pub parts_order : (tys : List ColumnType) (vs ws : List Datum) (a b : List ℕ) → AllZip HasType tys vs → AllZip HasType tys ws
    → bytes_cmp (flat_map key_part vs ++ a) (flat_map key_part ws ++ b) ≡ ordering_then (key_cmp vs ws) (bytes_cmp a b)
parts_order [] [] [] a b p q = refl
parts_order [] (v ∷ vs) ws a b p q = absurd p
parts_order [] [] (w ∷ ws) a b p q = absurd q
parts_order (ty ∷ tys) [] ws a b p q = absurd p
parts_order (ty ∷ tys) (v ∷ vs) [] a b p q = absurd q
parts_order (ty ∷ tys) (v ∷ vs) (w ∷ ws) a b p q =
    rw (append_assoc (key_part v) (flat_map key_part vs) a, append_assoc (key_part w) (flat_map key_part ws) b)
    (part_order ty v w (flat_map key_part vs ++ a) (flat_map key_part ws ++ b) p.0 q.0
    ∙ ap (ordering_then (datum_cmp v w)) (parts_order tys vs ws a b p.1 q.1) ∙ then_assoc (datum_cmp v w) (key_cmp vs ws) (bytes_cmp a b))
