-- Laws on searches whose spans were answered one after the other.
use Rattle.std.specs.Prelude.{◌≡◌, ℕ, ◌<◌, ◌≤◌, ◌==◌, ◌-◌, Bool, false, not, ◌&&◌, ⊤, List, [], ◌∷◌, length, map, flat_map, filter, MatchOption, Some, None}
use Rattle.std.specs.List.{zip}
use Rattle.mr_base.specs.declared.spans.Ask.{Ask}
use Rattle.mr_base.specs.declared.spans.Pair.{Pair}
use Rattle.row_locality.specs.Pairs.{KeyValue}
use Rattle.sql_eval.specs.Evaluation.{has_pair}
use Rattle.sql_eval.specs.Reads.{Reads}
use Rattle.sql_eval.specs.Search.{Lookup, Answer, ask_of, search, gives, needs}
use Rattle.local_search.specs.Searching.{Searching, begun, next_in, after_rows}

abbrev pub pair_of : KeyValue → Pair
pair_of p = record { key = p.0; value = p.1 }

-- A search goes on, its spans being answered by these pairs, one after the other.
abbrev pub after_all : Searching → List (List KeyValue) → Searching
after_all s [] = s
after_all s (pairs ∷ rest) = after_all (after_rows s (map pair_of pairs)) rest

-- Each of these pairs is what is known of the span that was asked.
abbrev pub AreKnown : Reads → Searching → List (List KeyValue) → Type 0
AreKnown reads s [] = ⊤
AreKnown reads s (pairs ∷ rest) =
    MatchOption (next_in s) ⊥ (λ ask. reads ask ≡ Some pairs) × AreKnown reads (after_rows s (map pair_of pairs)) rest

-- A search by an index ends at the first answer with a pair, any other after all.
abbrev pub ends_where : Bool → Answer → Bool
ends_where stops a = stops && has_pair a

-- What a search that was answered so far comes to, by the definition of a search: it gives these answers
-- where it is done, and else needs the next span, it and those after it still being to come.
abbrev pub IsAsDefined : Reads → Bool → List Lookup → List (List KeyValue) → Searching → Type 0
IsAsDefined reads stops lookups known s =
    MatchOption (next_in s) (search reads (ends_where stops) lookups ≡ gives (zip lookups known))
    (λ ask. reads ask ≡ None → search reads (ends_where stops) lookups ≡ needs ask 0 (length lookups - length known))

-- A search is the defined one, over all that may be known and as far as it was answered.
abbrev pub SearchIsAsDefined : Type 0
SearchIsAsDefined = (reads : Reads) (stops : Bool) (lookups : List Lookup) (known : List (List KeyValue)) →
    AreKnown reads (begun (map ask_of lookups) 0 stops) known →
    IsAsDefined reads stops lookups known (after_all (begun (map ask_of lookups) 0 stops) known)

-- What a span holds, whatever else there is.
abbrev pub Held : Type 0
Held = Ask → List KeyValue

abbrev pub reads_of : Held → Reads
reads_of held ask = Some (held ask)

abbrev pub all_pairs : Held → List Ask → List Pair
all_pairs held spans = flat_map (λ ask. map pair_of (held ask)) spans

abbrev pub holds_pair : Held → Ask → Bool
holds_pair held ask = not (length (held ask) == 0)

abbrev pub AtMostOneHolds : Held → List Ask → Type 0
AtMostOneHolds held spans = length (filter (holds_pair held) spans) ≤ 1

-- What a search that is done has found: where it doesn't stop, the pairs of all spans in the order searched;
-- and where at most one span holds a pair, the pairs of all spans, whichever is near and whether it stops.
pub record FoundAll (held : Held) (spans : List Ask) (s : Searching) : Type 0 where
  pub to_the_end : s.stops ≡ false → s.found ≡ all_pairs held s.order
  pub near_first : AtMostOneHolds held spans → s.found ≡ all_pairs held spans

abbrev pub NearFirstIsFull : Type 0
NearFirstIsFull = (held : Held) (spans : List Ask) (near : ℕ) (stops : Bool) (known : List (List KeyValue)) → near < length spans →
    AreKnown (reads_of held) (begun spans near stops) known →
    next_in (after_all (begun spans near stops) known) ≡ None →
    FoundAll held spans (after_all (begun spans near stops) known)
