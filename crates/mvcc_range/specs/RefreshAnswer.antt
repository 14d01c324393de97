use Rattle.std.specs.Prelude.{◌≡◌, ℕ, List, None}
use Rattle.mr_base.specs.Spans.{InSpan}
use Rattle.mr_base.specs.Timestamps.{IsBelow}
use Rattle.mr_base.specs.declared.ids.AttemptId.{AttemptId}
use Rattle.mr_base.specs.declared.messages.Known.{Known}
use Rattle.mr_base.specs.declared.spans.Span.{Span}
use Rattle.mr_base.specs.declared.timestamps.Ts.{Ts}
use Rattle.mvcc_range.specs.Answer.{GivesRows, GivesUnknown, Read, Sees}
use Rattle.range_log.specs.Facts.{Laid, Version}
use Rattle.range_log.specs.declared.entries.Entry.{Entry}

-- What a refresh of a log gives. (Read refreshes: Taft et al., SIGMOD 2020.)

-- A refresh: whether what an attempt read of a span at a timestamp reads the same at a later one, with the
-- fates that it carries of other attempts.
pub record Refresh : Type 0 where
  pub attempt : AttemptId
  pub span : Span
  pub from : Ts
  pub to : Ts
  pub known : List Known

-- The same span read at the later timestamp. A refresh has no uncertainty limit.
abbrev pub later_read : Refresh → Read
later_read r = record { attempt = r.attempt; span = r.span; at = r.to; limit = None; known = r.known }

-- A write that the first read didn't see and the later one does: what is seen as a version of a key of the
-- span, above the one timestamp and below the other. An attempt that refreshes has not committed, so each
-- version is another's.
abbrev pub IsNewerWrite : List Entry → Refresh → Ts → Type 0
IsNewerWrite entries r ts =
    (v : Version) × Sees entries (later_read r) v × InSpan r.span v.key × (v.ts ≡ ts) × IsBelow r.from ts
    × IsBelow ts r.to

-- A refresh is done: the later read meets no obstacle, and there is no newer write.
abbrev pub IsRefreshed : List Entry → Refresh → Type 0
IsRefreshed entries r = GivesRows entries (later_read r) × ((ts : Ts) → ¬ IsNewerWrite entries r ts)

-- A refresh gives the first intent in key order that no known fate settles.
abbrev pub RefreshGivesUnknown : List Entry → Refresh → List ℕ → Laid → Type 0
RefreshGivesUnknown entries r key i = GivesUnknown entries (later_read r) key i

-- A refresh gives the least timestamp of a newer write, where there is no such intent.
abbrev pub RefreshGivesNewer : List Entry → Refresh → Ts → Type 0
RefreshGivesNewer entries r ts =
    GivesRows entries (later_read r) × IsNewerWrite entries r ts
    × ((other : Ts) → IsNewerWrite entries r other → ¬ IsBelow other ts)
