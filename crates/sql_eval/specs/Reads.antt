-- What is known of ranges: of a span of a range its pairs, or nothing where they aren't known. (This
-- project's profile.)
use Rattle.std.specs.Prelude.{◌≡◌, ◌==◌, Bool, ◌&&◌, List, map, find, Option, Some, option_map}
use Rattle.std.specs.FinMap.Entries.{where_key}
use Rattle.mr_base.specs.declared.script.Fed.{Fed}
use Rattle.mr_base.specs.declared.spans.Ask.{Ask}
use Rattle.row_locality.specs.Pairs.{KeyValue, bytes_cmp, key_value}
use Rattle.row_locality.specs.Plain.{Layout, PlainDatabase, range_pairs}
use Rattle.row_locality.specs.Spans.{is_in, is_inside}

abbrev pub Reads : Type 0
Reads = Ask → Option (List KeyValue)

-- Whether what was fed covers an ask: it is of the same range, and its span holds that of the ask.
abbrev pub covers : Ask → Fed → Bool
covers ask fed = (ask.range.0 == fed.ask.range.0) && is_inside ask.span fed.ask.span

abbrev pub rows_within : Ask → Fed → List KeyValue
rows_within ask fed = where_key bytes_cmp (is_in ask.span) (map key_value fed.rows)

-- What is known after these spans were fed: of the first that covers an ask, the rows in its span.
unfoldable pub served_reads : List Fed → Reads
served_reads fed ask = option_map (rows_within ask) (find (covers ask) fed)

-- All that a database holds.
unfoldable pub stored_reads : Layout → PlainDatabase → Reads
stored_reads l d ask = Some (where_key bytes_cmp (is_in ask.span) (range_pairs l d ask.range))

-- What the one knows, the other knows too, and the same.
abbrev pub IsPartOf : Reads → Reads → Type 0
IsPartOf part whole = (ask : Ask) (pairs : List KeyValue) → part ask ≡ Some pairs → whole ask ≡ Some pairs
