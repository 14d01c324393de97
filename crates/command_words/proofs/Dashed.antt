-- A dashed word that is no flag of the reader's is refused.
use Rattle.std.proofs.Common.{◌≡◌, ◌≢◌, ◌∙◌, ◌<◌, ◌==◌, ◌||◌, ap, refl, subst, sym, arith, true, false, Bool, ℕ, List, [], ◌∷◌, Option, Some, None, codes, eqb-true, get_or, length, zero, suc, true≢false}
use Rattle.std.specs.Prelude.{slice_get}
use Rattle.std.specs.Char.{encode_utf8}
use Rattle.std.specs.Str.{IsUtf8, bytes_eq, chars, encode_utf8_all}
use Rattle.std.proofs.lemmas.Bool.Decides.{nat_tests}
use Rattle.std.proofs.lemmas.Slice.Eq.{bytes_eq-Decides}
use Rattle.std.proofs.lemmas.Str.{encodes-chars}
use Rattle.clap.specs.Lexer.{has_byte, long_of, name_and_value}
use Rattle.clap.specs.Kinds.{Kinds, or_else}
use Rattle.clap.specs.Faults.{flag_word_fault, flags_fault, long_fault, turn_fault}
use Rattle.clap.specs.Walk.{Held, Row, Text, arg_by_long}
use Rattle.clap.specs.declared.error.kind.ErrorKind.TheVariants as kind
use Rattle.clap.proofs.CutLemmas.{Lacks}
use Rattle.clap.proofs.LexerLemmas.{name_and_value-without}
use Rattle.command_words.specs.Words.{is_dashed}
use Rattle.command_words.proofs.Reader.{reader_rules, reader_shape, standing}

-- a flag with another name, or with a value, is refused
long_refused : (name : Text) (value : Option Text) (h : Held)
    → (value ≡ None → bytes_eq (codes "trace") name ≡ false) → (value ≡ None → bytes_eq (codes "json") name ≡ false)
    → long_fault reader_rules false (arg_by_long reader_rules name) value h ≡ [] → ⊥
long_refused name None h trace json e =
    let bad : kind.UnknownArgument ∷ [] ≡ [] = rw (trace refl, json refl) at e in
    cc
long_refused name (Some v) h trace json e = go (bytes_eq (codes "trace") name) (bytes_eq (codes "json") name) refl refl
  where
    go : (a b : Bool) → bytes_eq (codes "trace") name ≡ a → bytes_eq (codes "json") name ≡ b → ⊥
    go true b is_trace is_json =
        let bad : kind.TooManyValues ∷ [] ≡ [] = rw is_trace at e in
        cc
    go false true is_trace is_json =
        let bad : kind.TooManyValues ∷ [] ≡ [] = rw (is_trace, is_json) at e in
        cc
    go false false is_trace is_json =
        let bad : kind.UnknownArgument ∷ [] ≡ [] = rw (is_trace, is_json) at e in
        cc

same_number : (c : ℕ) → (c == c) ≡ true
same_number c = grind (arith, nat_tests)

lacks : (c : ℕ) (xs : List ℕ) → has_byte c xs ≡ false → Lacks c xs
lacks c [] e i lt = absurd (omega arith)
lacks c (x ∷ xs) e i lt = go (x == c) refl e (lacks c xs) i lt
  where
    go : (b : Bool) → (x == c) ≡ b → (b || has_byte c xs) ≡ false → (has_byte c xs ≡ false → Lacks c xs) → (i : ℕ) → i < length (x ∷ xs) → get_or (x ∷ xs) i 0 ≢ c
    go true is e rest i lt = absurd (true≢false e)
    go false is e rest zero lt = λ same. true≢false (sym (same_number c) ∙ (ap (λ n. n == c) (sym same) ∙ is))
    go false is e rest (suc i) lt = rest e i (omega arith)

apart : (a b : Text) → bytes_eq a b ≡ false → bytes_eq b a ≡ false
apart a b e = go (bytes_eq b a) refl
  where
    go : (x : Bool) → bytes_eq b a ≡ x → x ≡ false
    go true is = sym ((bytes_eq-Decides a b).1 (sym ((bytes_eq-Decides b a).0 is))) ∙ e
    go false is = refl

-- what stands behind `--`
dashes_refused : (text : Text) (h : Held) → bytes_eq text (codes "trace") ≡ false → bytes_eq text (codes "json") ≡ false
    → long_fault reader_rules false (arg_by_long reader_rules (name_and_value text).0) (name_and_value text).1 h ≡ [] → ⊥
dashes_refused text h trace json e = go (has_byte 61 text) refl
  where
    go : (b : Bool) → has_byte 61 text ≡ b → ⊥
    go true is =
        let some : (name_and_value text).1 ≢ None = rw is (λ none. cc) in
        long_refused (name_and_value text).0 (name_and_value text).1 h (λ none. absurd (some none)) (λ none. absurd (some none)) e
    go false is =
        let whole = name_and_value-without text (lacks 61 text is) in
        long_refused text None h (λ _. apart text (codes "trace") trace) (λ _. apart text (codes "json") json)
        (subst (λ (p : Text × Option Text). long_fault reader_rules false (arg_by_long reader_rules p.0) p.1 h ≡ []) whole e)

-- a text has a first character
first_char : (y : ℕ) (rest : Text) → IsUtf8 (45 ∷ y ∷ rest) → slice_get (chars (y ∷ rest)) 0 ≢ None
unfolding chars encode_utf8
first_char y rest text none = go (chars (y ∷ rest)) refl none
  where
    go : (cs : List ℕ) → chars (y ∷ rest) ≡ cs → slice_get cs 0 ≡ None → ⊥
    go [] is none =
        let spelled : encode_utf8_all (45 ∷ chars (y ∷ rest)) ≡ 45 ∷ y ∷ rest = encodes-chars (45 ∷ y ∷ rest) text in
        let short : encode_utf8_all (45 ∷ []) ≡ 45 ∷ y ∷ rest = rw is at spelled in
        let bad : 1 ≡ length (45 ∷ y ∷ rest) = ap length short in
        absurd (omega arith)
    go (c ∷ cs) is none = cc

-- what stands behind a `-`
dash_refused : (y : ℕ) (rest : Text) (h : Held) → slice_get (chars (y ∷ rest)) 0 ≢ None
    → flags_fault reader_rules false (length (y ∷ rest)) (y ∷ rest) 0 h ≡ [] → ⊥
unfolding flags_fault
dash_refused y rest h some e = go (slice_get (chars (y ∷ rest)) 0) refl
  where
    go : (o : Option ℕ) → slice_get (chars (y ∷ rest)) 0 ≡ o → ⊥
    go None is = some is
    go (Some c) is =
        let bad : kind.UnknownArgument ∷ [] ≡ [] = rw is at e in
        cc

-- a dashed word that is neither flag
word_refused : (y : ℕ) (rest : Text) (h : Held) → h.skip ≡ 0 → IsUtf8 (45 ∷ y ∷ rest) → bytes_eq (45 ∷ y ∷ rest) (codes "--") ≡ false
    → bytes_eq (45 ∷ y ∷ rest) (codes "--trace") ≡ false → bytes_eq (45 ∷ y ∷ rest) (codes "--json") ≡ false
    → flag_word_fault reader_rules false (long_of (45 ∷ y ∷ rest)) (45 ∷ y ∷ rest) h ≡ [] → ⊥
word_refused y rest h skip text end trace json e = go (y == 45) refl
  where
    dashes : (rest : Text) → bytes_eq (45 ∷ 45 ∷ rest) (codes "--") ≡ false → bytes_eq (45 ∷ 45 ∷ rest) (codes "--trace") ≡ false
        → bytes_eq (45 ∷ 45 ∷ rest) (codes "--json") ≡ false → flag_word_fault reader_rules false (long_of (45 ∷ 45 ∷ rest)) (45 ∷ 45 ∷ rest) h ≡ [] → ⊥
    dashes [] end trace json e = true≢false end
    dashes (z ∷ zs) end trace json e = dashes_refused (z ∷ zs) h trace json e

    go : (b : Bool) → (y == 45) ≡ b → ⊥
    go true is =
        let P : ℕ → Type 0 = λ n. bytes_eq (45 ∷ n ∷ rest) (codes "--") ≡ false → bytes_eq (45 ∷ n ∷ rest) (codes "--trace") ≡ false
        → bytes_eq (45 ∷ n ∷ rest) (codes "--json") ≡ false → flag_word_fault reader_rules false (long_of (45 ∷ n ∷ rest)) (45 ∷ n ∷ rest) h ≡ [] → ⊥ in
        subst P (sym (eqb-true y 45 is)) (dashes rest) end trace json e
    go false is = dash_refused y rest _ (first_char y rest text) (rw (is, is, skip) at e)

first_empty : (a b : Kinds) → or_else a b ≡ [] → a ≡ []
first_empty [] b e = refl
first_empty (k ∷ ks) b e = cc

-- what a turn asks of a word that is not `--`
flag_asked : (behind : Bool) (rows : List Row) (name : Option Text) (word : Text) → bytes_eq word (codes "--") ≡ false
    → turn_fault reader_shape [] (standing false behind rows name) word ≡ []
    → flag_word_fault reader_rules false (long_of word) word (standing false behind rows name).held ≡ []
flag_asked true rows name word end e = first_empty _ _ (rw end at e)
flag_asked false rows name word end e = first_empty _ _ (rw end at e)

-- a dashed word that is neither flag is refused
pub dashed_fault : (behind : Bool) (rows : List Row) (name : Option Text) (word : Text) → IsUtf8 word → is_dashed word ≡ true
    → bytes_eq word (codes "--") ≡ false → bytes_eq word (codes "--trace") ≡ false → bytes_eq word (codes "--json") ≡ false
    → turn_fault reader_shape [] (standing false behind rows name) word ≡ [] → ⊥
dashed_fault behind rows name [] text dashed end trace json e = absurd (true≢false (sym dashed))
dashed_fault behind rows name (x ∷ []) text dashed end trace json e = absurd (true≢false (sym dashed))
dashed_fault behind rows name (x ∷ y ∷ rest) text dashed end trace json e =
    let P : ℕ → Type 0 = λ n. IsUtf8 (n ∷ y ∷ rest) → bytes_eq (n ∷ y ∷ rest) (codes "--") ≡ false → bytes_eq (n ∷ y ∷ rest) (codes "--trace") ≡ false
    → bytes_eq (n ∷ y ∷ rest) (codes "--json") ≡ false
    → flag_word_fault reader_rules false (long_of (n ∷ y ∷ rest)) (n ∷ y ∷ rest) (standing false behind rows name).held ≡ [] → ⊥ in
    subst P (sym (eqb-true x 45 dashed)) (word_refused y rest (standing false behind rows name).held refl) text end trace json
    (flag_asked behind rows name (x ∷ y ∷ rest) end e)
