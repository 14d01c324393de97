-- The writes that a list's statements made so far, which its later statements see. (This project's profile.)
use Rattle.std.specs.Prelude.{ℕ, ◌==◌, Bool, ◌&&◌, if◌then◌else◌, List, [], ◌∷◌, filter_map, Option, Some, None, option_map, is_none}
use Rattle.std.specs.FinMap.Entries.{put, find, where_key}
use Rattle.std.specs.Option.{option_map_or, option_eq}
use Rattle.std.specs.Ordering.{ordering_then, nat_cmp}
use Rattle.std.specs.declared.cmp.Ordering.{Ordering}
use Rattle.std.specs.Str.{bytes_eq}
use Rattle.mr_base.specs.declared.ids.RangeId.{RangeId}
use Rattle.mr_base.specs.declared.spans.Ask.{Ask}
use Rattle.mr_base.specs.declared.spans.Write.{Write}
use Rattle.row_locality.specs.Pairs.{KeyValue, bytes_cmp, put_all}
use Rattle.row_locality.specs.Spans.{is_in}
use Rattle.sql_eval.specs.Reads.{Reads}

-- ---- one write

-- A key of a range, its value before a write and its value after. None: there is no such key.
pub record OwnWrite : Type 0 where
  pub range : RangeId
  pub key : List ℕ
  pub before : Option (List ℕ)
  pub after : Option (List ℕ)

abbrev pub removal : RangeId → KeyValue → OwnWrite
removal range p = record { range = range; key = p.0; before = Some p.1; after = None }

abbrev pub addition : RangeId → KeyValue → OwnWrite
addition range p = record { range = range; key = p.0; before = None; after = Some p.1 }

-- ---- all of them

-- The values of a key before its first write and after its last.
pub record FirstAndLast : Type 0 where
  pub first : Option (List ℕ)
  pub last : Option (List ℕ)

abbrev pub Place : Type 0
Place = RangeId × List ℕ

-- Places order by range, then by key.
abbrev pub place_cmp : Place → Place → Ordering
place_cmp a b = ordering_then (nat_cmp a.0.0 b.0.0) (bytes_cmp a.1 b.1)

-- Each place that was written, in their order.
abbrev pub OwnWrites : Type 0
OwnWrites = List (Place × FirstAndLast)

-- The value of a place before its first write, where this is the next one.
abbrev pub first_value : OwnWrites → OwnWrite → Option (List ℕ)
first_value own w = option_map_or (λ x. x.first) (find place_cmp (w.range, w.key) own) w.before

abbrev pub with_write : OwnWrites → OwnWrite → OwnWrites
with_write own w = put place_cmp (w.range, w.key) (record { first = first_value own w; last = w.after }) own

-- More writes, one after the other.
unfoldable pub with_writes : OwnWrites → List OwnWrite → OwnWrites
with_writes own [] = own
with_writes own (w ∷ ws) = with_writes (with_write own w) ws

-- ---- reads through them

-- The value of a key that held this one before all of them.
abbrev pub last_value : OwnWrites → RangeId → List ℕ → Option (List ℕ) → Option (List ℕ)
last_value own range key value = option_map_or (λ x. x.last) (find place_cmp (range, key) own) value

abbrev pub is_asked : Ask → Place → Bool
is_asked ask place = (place.0.0 == ask.range.0) && is_in ask.span place.1

-- The keys of a span that were written, each with its last value.
abbrev pub values_written : OwnWrites → Ask → List (List ℕ × Option (List ℕ))
values_written own ask = filter_map (λ x. if is_asked ask x.0 then Some (x.0.1, x.1.last) else None) own

-- Pairs without the keys that were written, and then the last values of those that have one.
abbrev pub patched_pairs : List (List ℕ × Option (List ℕ)) → List KeyValue → List KeyValue
patched_pairs written pairs =
    put_all (filter_map (λ x. option_map (λ value. (x.0, value)) x.1) written)
    (where_key bytes_cmp (λ key. is_none (find bytes_cmp key written)) pairs)

-- What is known through own writes. A span that isn't known stays so, whatever was written in it.
unfoldable pub reads_through : OwnWrites → Reads → Reads
reads_through own reads ask = option_map (patched_pairs (values_written own ask)) (reads ask)

-- ---- what a list writes

abbrev pub write_at : Place → FirstAndLast → Option Write
write_at place x = if option_eq bytes_eq x.first x.last then None else Some (record { range = place.0; key = place.1; value = x.last })

-- In the order of ranges and keys, each key whose last value isn't its first.
unfoldable pub writes_of : OwnWrites → List Write
writes_of own = filter_map (λ x. write_at x.0 x.1) own
