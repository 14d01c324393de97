-- What the reader makes of all words, beside the grammar.
use Rattle.std.proofs.Common.{◌≡◌, ◌∙◌, ◌++◌, ap, append-nil, append_assoc, cond, refl, subst, sym, true, false, Bool, List, [], ◌∷◌, map, Option, Some, None, codes, option_map}
use Rattle.std.specs.Prelude.{String, option_and_then, string_bytes}
use Rattle.std.specs.List.{fold}
use Rattle.std.specs.Str.{bytes_eq}
use Rattle.std.specs.declared.alloc.Global.{Global}
use Rattle.std.proofs.lemmas.Slice.Eq.{bytes_eq-Decides}
use Rattle.std.proofs.lemmas.Str.{IsUtf8-had}
use Rattle.clap.specs.Faults.{turn_fault, walk_fault}
use Rattle.clap.specs.Kinds.{Kinds, or_else}
use Rattle.clap.specs.Walk.{Row, Text, Walk, walked}
use Rattle.command_words.specs.Words.{Sorted, is_dashed, only_names, sorted, with_json, with_name, with_trace}
use Rattle.command_words.proofs.Reader.{held_names, reader_rules, reader_shape, standing, with_flag_row, with_held}
use Rattle.command_words.proofs.Holding.{Holds, has_flag, holds_held, holds_json, holds_trace}
use Rattle.command_words.proofs.Joined.{joined, joined-json, joined-json_again, joined-name, joined-only, joined-trace, joined-trace_again}
use Rattle.command_words.proofs.WordForms.{plain_word}
use Rattle.command_words.proofs.Dashed.{dashed_fault}
use Rattle.command_words.proofs.Turns.{end_fault, end_walk, json_again, json_first, json_walk, plain_fault, plain_walk, trace_again, trace_first, trace_walk, trailing_fault, trailing_walk}

-- the walk has ended with these flags and names
pub record Ends (end : Walk) (s : Sorted) : Type 0 where
  pub is_trailing : Bool
  pub is_behind : Bool
  pub rows : List Row
  pub name : Option Text
  pub names : List Text
  pub is : end ≡ standing is_trailing is_behind rows name
  pub holds : Holds rows s.trace s.json names
  pub all : names ++ held_names name ≡ s.names

-- a walk fails where the words give nothing, and else ends with what they give
abbrev pub Comes : Kinds → Walk → Option Sorted → Type 0
Comes faults end None = faults ≡ [] → ⊥
Comes faults end (Some s) = (faults ≡ []) × Ends end s

abbrev pub faults_from : Walk → List Text → Kinds
faults_from w words = walk_fault reader_shape [] w words

abbrev pub walk_on : Walk → List Text → Walk
walk_on w words = fold (walked reader_rules []) w words

-- one word that passes
turns : (w next : Walk) (word : Text) (words : List Text) (o : Option Sorted)
    → turn_fault reader_shape [] w word ≡ [] → walked reader_rules [] w word ≡ next
    → Comes (faults_from next words) (walk_on next words) o → Comes (faults_from w (word ∷ words)) (walk_on w (word ∷ words)) o
unfolding walk_fault
turns w next word words o passes is comes =
    let P : Kinds → Walk → Type 0 = λ k v. Comes (or_else k (faults_from v words)) (walk_on v words) o in
    subst (λ k. P k (walked reader_rules [] w word)) (sym passes) (subst (λ v. P [] v) (sym is) comes)

-- one word that is refused
stops : (w : Walk) (word : Text) (words : List Text) → (turn_fault reader_shape [] w word ≡ [] → ⊥) → Comes (faults_from w (word ∷ words)) (walk_on w (word ∷ words)) None
unfolding walk_fault
stops w word words refused e = go (turn_fault reader_shape [] w word) (faults_from (walked reader_rules [] w word) words) refused e
  where
    go : (a b : Kinds) → (a ≡ [] → ⊥) → or_else a b ≡ [] → ⊥
    go [] b refused e = refused refl
    go (k ∷ ks) b refused e = cc

-- behind `--` each word is a name
trailing : (words : List Text) (behind : Bool) (rows : List Row) (name : Option Text) (trace json : Bool) (names : List Text) → Holds rows trace json names
    → Comes (faults_from (standing true behind rows name) words) (walk_on (standing true behind rows name) words)
    (Some (record { trace = trace; json = json; names = (names ++ held_names name) ++ words }))
unfolding walk_fault
trailing [] behind rows name trace json names h =
    (refl, record { is_trailing = true; is_behind = behind; rows = rows; name = name; names = names; is = refl; holds = h; all = sym (append-nil (names ++ held_names name)) })
trailing (word ∷ words) behind rows name trace json names h =
    let sofar = names ++ held_names name in
    let rest = trailing words true (with_held name rows) (Some word) trace json sofar (holds_held name rows trace json names h) in
    let same : Sorted → Type 0 = λ s. Comes (faults_from (standing true true (with_held name rows) (Some word)) words) (walk_on (standing true true (with_held name rows) (Some word)) words) (Some s) in
    turns (standing true behind rows name) (standing true true (with_held name rows) (Some word)) word words
    (Some (record { trace = trace; json = json; names = sofar ++ word ∷ words }))
    (trailing_fault behind rows name word) (trailing_walk behind rows name word)
    (subst (λ l. same (record { trace = trace; json = json; names = l })) (append_assoc sofar (word ∷ []) words) rest)

-- what the words from here on give, whatever stands before them
abbrev GoesOn : List Text → Option Sorted → Type 0
GoesOn words o = (behind : Bool) (rows : List Row) (name : Option Text) (trace json : Bool) (names : List Text) → Holds rows trace json names
    → Comes (faults_from (standing false behind rows name) words) (walk_on (standing false behind rows name) words) (joined trace json (names ++ held_names name) o)

-- `--`
end_goes_on : (word : Text) (words : List Text) → word ≡ codes "--" → GoesOn (word ∷ words) (Some (only_names words))
end_goes_on word words is behind rows name trace json names h =
    let from = standing false behind rows name in
    subst (λ w. Comes (faults_from from (w ∷ words)) (walk_on from (w ∷ words)) (joined trace json (names ++ held_names name) (Some (only_names words)))) (sym is)
    (turns from (standing true behind rows name) (codes "--") words _ (end_fault behind rows name) (end_walk behind rows name)
    (subst (Comes (faults_from (standing true behind rows name) words) (walk_on (standing true behind rows name) words)) (sym (joined-only trace json (names ++ held_names name) words))
    (trailing words behind rows name trace json names h)))

-- `--trace`
trace_goes_on : (word : Text) (words : List Text) (o : Option Sorted) → word ≡ codes "--trace" → GoesOn words o → GoesOn (word ∷ words) (option_and_then with_trace o)
trace_goes_on word words o is rest behind rows name true json names h =
    let from = standing false behind rows name in
    let sofar = names ++ held_names name in
    let given = has_flag (codes "trace") (with_held name rows) true (holds_held name rows true json names h).trace_row in
    subst (λ w. Comes (faults_from from (w ∷ words)) (walk_on from (w ∷ words)) (joined true json sofar (option_and_then with_trace o))) (sym is)
    (subst (Comes (faults_from from (codes "--trace" ∷ words)) (walk_on from (codes "--trace" ∷ words))) (sym (joined-trace_again json sofar o))
    (stops from (codes "--trace") words (λ e. let bad = sym (trace_again behind rows name given) ∙ e in cc)))
trace_goes_on word words o is rest behind rows name false json names h =
    let from = standing false behind rows name in
    let sofar = names ++ held_names name in
    let held = holds_held name rows false json names h in
    let given = has_flag (codes "trace") (with_held name rows) false held.trace_row in
    let next = with_flag_row (codes "trace") (with_held name rows) in
    let later = rest false next None true json sofar (holds_trace (with_held name rows) json sofar held) in
    subst (λ w. Comes (faults_from from (w ∷ words)) (walk_on from (w ∷ words)) (joined false json sofar (option_and_then with_trace o))) (sym is)
    (turns from (standing false false next None) (codes "--trace") words _ (trace_first behind rows name given) (trace_walk behind rows name)
    (subst (Comes (faults_from (standing false false next None) words) (walk_on (standing false false next None) words))
    (ap (λ l. joined true json l o) (append-nil sofar) ∙ sym (joined-trace json sofar o)) later))

-- `--json`
json_goes_on : (word : Text) (words : List Text) (o : Option Sorted) → word ≡ codes "--json" → GoesOn words o → GoesOn (word ∷ words) (option_and_then with_json o)
json_goes_on word words o is rest behind rows name trace true names h =
    let from = standing false behind rows name in
    let sofar = names ++ held_names name in
    let given = has_flag (codes "json") (with_held name rows) true (holds_held name rows trace true names h).json_row in
    subst (λ w. Comes (faults_from from (w ∷ words)) (walk_on from (w ∷ words)) (joined trace true sofar (option_and_then with_json o))) (sym is)
    (subst (Comes (faults_from from (codes "--json" ∷ words)) (walk_on from (codes "--json" ∷ words))) (sym (joined-json_again trace sofar o))
    (stops from (codes "--json") words (λ e. let bad = sym (json_again behind rows name given) ∙ e in cc)))
json_goes_on word words o is rest behind rows name trace false names h =
    let from = standing false behind rows name in
    let sofar = names ++ held_names name in
    let held = holds_held name rows trace false names h in
    let given = has_flag (codes "json") (with_held name rows) false held.json_row in
    let next = with_flag_row (codes "json") (with_held name rows) in
    let later = rest false next None trace true sofar (holds_json (with_held name rows) trace sofar held) in
    subst (λ w. Comes (faults_from from (w ∷ words)) (walk_on from (w ∷ words)) (joined trace false sofar (option_and_then with_json o))) (sym is)
    (turns from (standing false false next None) (codes "--json") words _ (json_first behind rows name given) (json_walk behind rows name)
    (subst (Comes (faults_from (standing false false next None) words) (walk_on (standing false false next None) words))
    (ap (λ l. joined trace true l o) (append-nil sofar) ∙ sym (joined-json trace sofar o)) later))

-- a name
name_goes_on : (word : Text) (words : List Text) (o : Option Sorted) → is_dashed word ≡ false → GoesOn words o → GoesOn (word ∷ words) (option_map (with_name word) o)
name_goes_on word words o plain rest behind rows name trace json names h =
    let from = standing false behind rows name in
    let sofar = names ++ held_names name in
    let next = standing false true (with_held name rows) (Some word) in
    let later = rest true (with_held name rows) (Some word) trace json sofar (holds_held name rows trace json names h) in
    turns from next word words _ (plain_fault behind rows name word (plain_word word plain)) (plain_walk behind rows name word (plain_word word plain))
    (subst (Comes (faults_from next words) (walk_on next words)) (sym (joined-name trace json sofar word o)) later)

nothing_goes_on : GoesOn [] (Some (only_names []))
unfolding walk_fault
nothing_goes_on behind rows name trace json names h =
    let sofar = names ++ held_names name in
    subst (Comes [] (standing false behind rows name)) (sym (joined-only trace json sofar [])) (
      refl,
      record { is_trailing = false; is_behind = behind; rows = rows; name = name; names = names; is = refl; holds = h; all = sym (append-nil sofar) },
    )

-- the reader makes of the words what the grammar says of them
pub reads : (words : List (String Global)) → GoesOn (map string_bytes words) (sorted (map string_bytes words))
reads [] = nothing_goes_on
reads (w ∷ words) = go (bytes_eq word (codes "--")) (bytes_eq word (codes "--trace")) (bytes_eq word (codes "--json")) (is_dashed word) refl refl refl refl (reads words)
  where
    word : Text
    word = string_bytes w

    rest : Option Sorted
    rest = sorted (map string_bytes words)

    go : (a b c d : Bool) → bytes_eq word (codes "--") ≡ a → bytes_eq word (codes "--trace") ≡ b → bytes_eq word (codes "--json") ≡ c → is_dashed word ≡ d
        → GoesOn (map string_bytes words) rest
        → GoesOn (word ∷ map string_bytes words) (cond a (Some (only_names (map string_bytes words))) (cond b (option_and_then with_trace rest)
        (cond c (option_and_then with_json rest) (cond d None (option_map (with_name word) rest)))))
    go true b c d is _ _ _ later = end_goes_on word (map string_bytes words) ((bytes_eq-Decides word (codes "--")).0 is)
    go false true c d _ is _ _ later = trace_goes_on word (map string_bytes words) rest ((bytes_eq-Decides word (codes "--trace")).0 is) later
    go false false true d _ _ is _ later = json_goes_on word (map string_bytes words) rest ((bytes_eq-Decides word (codes "--json")).0 is) later
    go false false false true end trace json dashed later = λ behind rows name _ _ _ _.
        stops (standing false behind rows name) word (map string_bytes words) (dashed_fault behind rows name word (IsUtf8-had word w.ok) dashed end trace json)
    go false false false false _ _ _ plain later = name_goes_on word (map string_bytes words) rest plain later
