-- What holds of words that are read: names are ASCII, and what follows a word of a text is a text.
use Rattle.std.proofs.Common.{◌≡◌, ℕ, ◌<◌, Bool, true, false, List, [], ◌∷◌, ◌++◌, ap, drop, length, get_or, Some, None, refl, subst, sym, arith}
use Rattle.std.specs.Prelude.{◌==◌, ◌&&◌, Option, bytes_eq, codes, if◌then◌else◌, nat_eq, nat_lt}
use Rattle.std.specs.List.{list_all, starts_with}
use Rattle.std.specs.Str.{IsCharBoundary, IsUtf8}
use Rattle.std.proofs.lemmas.Bool.{eqb-true, ltb-false, ltb-true}
use Rattle.std.proofs.lemmas.Bool.Decides.{Decides-eqb, nat_tests}
use Rattle.std.proofs.lemmas.List.Sums.{AllPass-from_list_all, prefix_len-le-length, prefix_len_stops}
use Rattle.std.proofs.lemmas.Slice.Eq.{starts_is}
use Rattle.std.proofs.lemmas.Str.{IsCharBoundary-after_ascii, IsCharBoundary-before_ascii, IsCharBoundary-end, IsUtf8-drop, IsUtf8-from_ascii}
use Rattle.std.proofs.lemmas.Str.Ascii.{IsAscii-from_all}
use Rattle.mr_base.specs.declared.settings.Kind.TheVariants as kinds
use Rattle.scenario.specs.Forms.{kind_at, within_at}
use Rattle.scenario.specs.Sound.{IsPlaceName, IsTxnName}
use Rattle.scenario.specs.Words.{◌>>=◌, after_word, first_word, is_inside_word, is_name, is_name_byte, lettered_at, lettered_in, name_at, node_at, node_of, number_at, number_in, place_at, text_at, txn_name_at, word_at, word_len}

-- what holds of what a reading gives, where it gives something
pub record Has {A : Type 0} (P : A → Type 0) (o : Option A) : Type 0 where
  pub each : (x : A) → o ≡ Some x → P x

pub has_none : {A : Type 0} (P : A → Type 0) → Has P None
has_none P = record { each = λ x e. absurd cc }

pub has_some : {A : Type 0} (P : A → Type 0) (v : A) → P v → Has P (Some v)
has_some P v h = record { each = λ x e. let same : v ≡ x = cc in subst P same h }

pub has_any : {A : Type 0} (o : Option A) → Has (λ (x : A). Unit {0}) o
has_any o = record { each = λ x e. tt }

pub has_bind : {A B : Type 0} (P : A → Type 0) (Q : B → Type 0) (o : Option A) (g : A → Option B) → Has P o → ((x : A) → P x → Has Q (g x)) → Has Q (o >>= g)
has_bind P Q None g h k = has_none Q
has_bind P Q (Some x) g h k = k x (h.each x refl)

has_if : {A : Type 0} (P : A → Type 0) (b : Bool) (o p : Option A) → (b ≡ true → Has P o) → Has P p → Has P (if b then o else p)
has_if P true o p h k = h refl
has_if P false o p h k = k

-- ---- what follows a word

-- what follows the word is a text
abbrev pub GoesOn : {A : Type 0} → A × List ℕ → Type 0
GoesOn x = IsUtf8 x.1

behind_ascii : (b : ℕ) (bytes : List ℕ) → IsUtf8 (b ∷ bytes) → b < 128 → IsUtf8 bytes
behind_ascii b bytes u lt = IsUtf8-drop (b ∷ bytes) 1 u (IsCharBoundary-after_ascii (b ∷ bytes) 0 u (omega arith) lt)

pub text_text : (rest : List ℕ) → IsUtf8 rest → Has IsUtf8 (text_at rest)
text_text [] u = has_none IsUtf8
text_text (b ∷ rest) u = has_if IsUtf8 (b == 32) (Some rest) None
    (λ e. let blank : b ≡ 32 = eqb-true b 32 e in has_some IsUtf8 rest (behind_ascii b rest u (omega arith)))
    (has_none IsUtf8)

outside_is_blank : (b : ℕ) → is_inside_word b ≡ false → b < 128
outside_is_blank b h = grind (arith, nat_tests)

word_ends : (text : List ℕ) → IsCharBoundary text (word_len text)
word_ends text = by (nat_lt (word_len text) (length text)) refl
  where
    by : (b : Bool) → nat_lt (word_len text) (length text) ≡ b → IsCharBoundary text (word_len text)
    by true e =
        let lt : word_len text < length text = ltb-true _ _ e in
        IsCharBoundary-before_ascii text (word_len text) lt (outside_is_blank _ (prefix_len_stops is_inside_word text 0 lt))
    by false e =
        let whole : word_len text ≡ length text = omega (arith, ltb-false _ _ e, prefix_len-le-length is_inside_word text) in
        subst (λ (n : ℕ). IsCharBoundary text n) (rw whole refl) (IsCharBoundary-end text)

pub rest_text : (text : List ℕ) → IsUtf8 text → IsUtf8 (after_word text)
rest_text text u = IsUtf8-drop text (word_len text) u (word_ends text)

word_text : (rest : List ℕ) → IsUtf8 rest → Has GoesOn (word_at rest)
unfolding word_at
word_text rest u = has_bind IsUtf8 GoesOn (text_at rest) _ (text_text rest u) (λ text t. has_some GoesOn (first_word text, after_word text) (rest_text text t))

number_text : (rest : List ℕ) → IsUtf8 rest → Has GoesOn (number_at rest)
unfolding number_at
number_text rest u =
    has_bind GoesOn GoesOn (word_at rest) _ (word_text rest u) (λ word t.
    has_bind (λ (n : ℕ). Unit {0}) GoesOn (number_in word.0) _ (has_any _) (λ n i. has_some GoesOn (n, word.1) t))

lettered_text : (letter : ℕ) (rest : List ℕ) → IsUtf8 rest → Has GoesOn (lettered_at letter rest)
unfolding lettered_at
lettered_text letter rest u =
    has_bind GoesOn GoesOn (word_at rest) _ (word_text rest u) (λ word t.
    has_bind (λ (n : ℕ). Unit {0}) GoesOn (lettered_in letter word.0) _ (has_any _) (λ n i. has_some GoesOn (n, word.1) t))

pub node_text : (rest : List ℕ) → IsUtf8 rest → Has GoesOn (node_at rest)
unfolding node_at
node_text rest u = has_bind GoesOn GoesOn (lettered_at 110 rest) _ (lettered_text 110 rest u) (λ n t. has_some GoesOn (node_of n.0, n.1) t)

-- ---- names

name_byte_is_ascii : (sign b : ℕ) → sign < 128 → is_name_byte sign b ≡ true → b < 128
name_byte_is_ascii sign b low h = grind (arith, nat_tests)

both : (a b : Bool) → (a && b) ≡ true → b ≡ true
both true b h = h
both false b h = absurd cc

name_is_text : (sign : ℕ) (word : List ℕ) → sign < 128 → is_name sign word ≡ true → IsUtf8 word
unfolding is_name
name_is_text sign word low h =
    let bytes = AllPass-from_list_all (is_name_byte sign) word (both _ (list_all (is_name_byte sign) word) h) in
    IsUtf8-from_ascii word (IsAscii-from_all word (λ i d lt. name_byte_is_ascii sign (get_or word i d) low (bytes i d lt)))

-- a word that is the name of a region or zone
abbrev pub IsPlace : List ℕ × List ℕ → Type 0
IsPlace x = IsPlaceName x.0

pub place_names : (rest : List ℕ) → Has IsPlace (place_at rest)
unfolding name_at
place_names rest =
    has_bind (λ (x : List ℕ × List ℕ). Unit {0}) IsPlace (word_at rest) _ (has_any _) (λ word i.
    has_if IsPlace (is_name 45 word.0) (Some word) None (λ e. has_some IsPlace word (e, name_is_text 45 word.0 (omega arith) e)) (has_none IsPlace))

-- a word that is the name of a transaction, and a text behind it
abbrev pub IsNamed : List ℕ × List ℕ → Type 0
IsNamed x = IsTxnName x.0 × IsUtf8 x.1

pub txn_name_text : (rest : List ℕ) → IsUtf8 rest → Has IsNamed (txn_name_at rest)
unfolding name_at
txn_name_text rest u =
    has_bind GoesOn IsNamed (word_at rest) _ (word_text rest u) (λ word t.
    has_if IsNamed (is_name 95 word.0) (Some word) None (λ e. has_some IsNamed word ((e, name_is_text 95 word.0 (omega arith) e), t)) (has_none IsNamed))

-- ---- when a transaction reads

behind_any : (bytes : List ℕ) → IsUtf8 bytes → starts_with nat_eq bytes (codes " any ") ≡ true → IsUtf8 (drop 4 bytes)
behind_any bytes u h =
    let same : bytes ≡ codes " any " ++ drop 5 bytes = (starts_is Decides-eqb bytes (codes " any ") true (sym h)).0 refl in
    let blank : get_or bytes 4 0 ≡ 32 = ap (λ (xs : List ℕ). get_or xs 4 0) same in
    let long : 4 < length bytes = omega (arith, ap length same) in
    IsUtf8-drop bytes 4 u (IsCharBoundary-before_ascii bytes 4 long (omega arith))

within_text : (rest : List ℕ) → IsUtf8 rest → Has GoesOn (within_at rest)
unfolding within_at
within_text rest u =
    has_bind GoesOn GoesOn (number_at rest) _ (number_text rest u) (λ ms t.
    has_if GoesOn (starts_with nat_eq ms.1 (codes " any ")) _ _
    (λ e. has_some GoesOn (kinds.Within ms.0 true, drop 4 ms.1) (behind_any ms.1 t e))
    (has_some GoesOn (kinds.Within ms.0 false, ms.1) t))

pub kind_text : (rest : List ℕ) → IsUtf8 rest → Has GoesOn (kind_at rest)
unfolding kind_at
kind_text rest u =
    has_bind GoesOn GoesOn (word_at rest) _ (word_text rest u) (λ word t.
    has_if GoesOn (bytes_eq word.0 (codes "now")) _ _ (λ e. has_some GoesOn (kinds.Now, word.1) t)
    (has_if GoesOn (bytes_eq word.0 (codes "ago")) _ _
    (λ e. has_bind GoesOn GoesOn (number_at word.1) _ (number_text word.1 t) (λ ms m. has_some GoesOn (kinds.Ago ms.0, ms.1) m))
    (has_if GoesOn (bytes_eq word.0 (codes "within")) _ _ (λ e. within_text word.1 t) (has_none GoesOn))))
