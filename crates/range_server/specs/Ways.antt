use Rattle.std.specs.Prelude.{◌≡◌, ◌⊎◌, ◌==◌, ◌≤◌, ℕ, Bool, true, if◌then◌else◌, List, Option, None, Some, MatchOption, fold}
use Rattle.mr_base.specs.Timestamps.{IsBelow, later}
use Rattle.mr_base.specs.declared.ids.AttemptId.{AttemptId}
use Rattle.mr_base.specs.declared.messages.Fate.{Fate}
use Rattle.mr_base.specs.declared.messages.Known.{Known}
use Rattle.mr_base.specs.declared.timestamps.Ts.{Ts}
use Rattle.mvcc_range.specs.Answer.{TellsFate}
use Rattle.mvcc_range.specs.Lookups.{IsVersionTs, laid_as}
use Rattle.range_log.specs.Facts.{HasIntent, Laid, closed_of}
use Rattle.range_log.specs.declared.entries.Entry.{Entry}
use Rattle.range_rules.specs.Puts.{IsInTheWay, just_above}
use Rattle.range_server.specs.Puts.{IsInWay, IsSettledBy, Put}
use Rattle.range_server.specs.declared.puts.Way.{Way}
use Rattle.range_server.specs.declared.puts.Way.TheVariants as ways

-- How a server finds what stands in the way of a put. No public clause cites this.

-- a fate of the attempt replaces what was found before
abbrev pub fate_with : AttemptId → Option Fate → Known → Option Fate
fate_with a found k = if k.attempt.0 == a.0 then Some k.fate else found

-- the last fate of an attempt in a list
abbrev pub last_fate : AttemptId → List Known → Option Fate
last_fate a known = fold (fate_with a) None known

-- a list tells this fate of an attempt, or none
abbrev pub IsTold : List Known → AttemptId → Option Fate → Type 0
IsTold known a answer = MatchOption answer ((f : Fate) → ¬ TellsFate known a f) (λ f. TellsFate known a f)

-- what stands at the key of a put
abbrev pub IsWay : List Entry → Put → Way → Type 0
IsWay entries put ways.Clear = (i : Laid) → HasIntent put.key i entries → i.attempt ≡ put.asked.attempt
IsWay entries put (ways.Settled other fate) = IsSettledBy entries put other fate
IsWay entries put (ways.Blocked intent) = (value : Option (List ℕ)) × IsInWay entries put (laid_as intent value)

-- the greater of a timestamp and the newest version's
abbrev pub with_newest : Ts → Option Ts → Ts
with_newest floor None = floor
with_newest floor (Some ts) = later floor ts

-- a timestamp stands in the way of a put, and none that does is above it
pub record IsFloor (high : Ts) (is_global : Bool) (ahead : ℕ) (key : List ℕ) (entries : List Entry) (f : Ts) : Type 0 where
  pub one : IsInTheWay (λ read. read ≡ high) entries key is_global ahead f
  pub read : ¬ IsBelow f high
  pub closed : ¬ IsBelow f (closed_of entries)
  pub versions : (version : Ts) → IsVersionTs entries key version → ¬ IsBelow f version
  pub lead : is_global ≡ true → ahead ≤ f.wall

-- where a put is laid that meets this timestamp
abbrev pub IsMoved : (asked floor : Ts) → AttemptId → Ts → Type 0
IsMoved asked floor attempt ts =
    ((¬ IsBelow asked floor) × (ts ≡ asked)) ⊎ (IsBelow asked floor × (ts ≡ just_above floor attempt))
