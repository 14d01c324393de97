-- What was read before other words, joined with what these give.
use Rattle.std.proofs.Common.{◌≡◌, ◌++◌, ◌&&◌, ◌||◌, ap, append_assoc, cond, refl, sym, true, false, Bool, List, [], ◌∷◌, Option, Some, None, option_map}
use Rattle.std.specs.Prelude.{option_and_then, if◌then◌else◌}
use Rattle.clap.specs.Walk.{Text}
use Rattle.command_words.specs.Words.{Sorted, only_names, with_json, with_name, with_trace}

abbrev pub joined : (trace json : Bool) → List Text → Option Sorted → Option Sorted
joined trace json names None = None
joined trace json names (Some s) =
    if trace && s.trace then None
    else if json && s.json then None
    else Some (record { trace = trace || s.trace; json = json || s.json; names = names ++ s.names })

pub joined-only : (trace json : Bool) (names words : List Text)
    → joined trace json names (Some (only_names words)) ≡ Some (record { trace = trace; json = json; names = names ++ words })
joined-only true true names words = refl
joined-only true false names words = refl
joined-only false true names words = refl
joined-only false false names words = refl

-- words that give these flags and names
abbrev given : (trace json : Bool) → List Text → Option Sorted
given trace json names = Some (record { trace = trace; json = json; names = names })

-- a flag before other words
pub joined-trace : (json : Bool) (names : List Text) (o : Option Sorted) → joined false json names (option_and_then with_trace o) ≡ joined true json names o
joined-trace json names None = refl
joined-trace json names (Some s) = go s.trace
  where
    go : (trace : Bool) → joined false json names (option_and_then with_trace (given trace s.json s.names)) ≡ joined true json names (given trace s.json s.names)
    go true = refl
    go false = refl

pub joined-json : (trace : Bool) (names : List Text) (o : Option Sorted) → joined trace false names (option_and_then with_json o) ≡ joined trace true names o
joined-json trace names None = refl
joined-json trace names (Some s) = go trace s.trace s.json
  where
    go : (before trace json : Bool) → joined before false names (option_and_then with_json (given trace json s.names)) ≡ joined before true names (given trace json s.names)
    go true true true = refl
    go true true false = refl
    go true false true = refl
    go true false false = refl
    go false trace true = refl
    go false trace false = refl

-- and once more
pub joined-trace_again : (json : Bool) (names : List Text) (o : Option Sorted) → joined true json names (option_and_then with_trace o) ≡ None
joined-trace_again json names None = refl
joined-trace_again json names (Some s) = go s.trace
  where
    go : (trace : Bool) → joined true json names (option_and_then with_trace (given trace s.json s.names)) ≡ None
    go true = refl
    go false = refl

pub joined-json_again : (trace : Bool) (names : List Text) (o : Option Sorted) → joined trace true names (option_and_then with_json o) ≡ None
joined-json_again trace names None = refl
joined-json_again trace names (Some s) = go trace s.trace s.json
  where
    go : (before trace json : Bool) → joined before true names (option_and_then with_json (given trace json s.names)) ≡ None
    go true true true = refl
    go true true false = refl
    go true false true = refl
    go true false false = refl
    go false trace true = refl
    go false trace false = refl

pub joined-name : (trace json : Bool) (names : List Text) (word : Text) (o : Option Sorted)
    → joined trace json names (option_map (with_name word) o) ≡ joined trace json (names ++ word ∷ []) o
joined-name trace json names word None = refl
joined-name trace json names word (Some s) =
    ap (λ l. cond (trace && s.trace) None (cond (json && s.json) None (Some (record { trace = trace || s.trace; json = json || s.json; names = l }))))
    (sym (append_assoc names (word ∷ []) s.names))

pub joined-start : (o : Option Sorted) → joined false false [] o ≡ o
joined-start None = refl
joined-start (Some s) = refl
