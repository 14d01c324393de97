use Rattle.std.specs.Prelude.{◌≡◌, ◌≢◌, ◌⊎◌, ◌+◌, ℕ, Bool, List, [], ◌∷◌, Option, Some}
use Rattle.mr_base.specs.Timestamps.{IsBelow}
use Rattle.mr_base.specs.declared.ids.AttemptId.{AttemptId}
use Rattle.mr_base.specs.declared.messages.Fate.{Fate}
use Rattle.mr_base.specs.declared.messages.Known.{Known}
use Rattle.mr_base.specs.declared.messages.Reply.{Reply}
use Rattle.mr_base.specs.declared.messages.Reply.TheVariants as replies
use Rattle.mr_base.specs.declared.timestamps.Ts.{Ts}
use Rattle.mvcc_range.specs.Answer.{TellsFate}
use Rattle.mvcc_range.specs.Lookups.{laid_as}
use Rattle.mvcc_range.specs.declared.key_state.Intent.{Intent}
use Rattle.range_log.specs.Facts.{HasIntent, Laid, lease_of}
use Rattle.range_log.specs.declared.entries.Entry.{Entry}
use Rattle.range_log.specs.declared.entries.Entry.TheVariants as log
use Rattle.range_log.specs.declared.entries.Lease.{Lease}
use Rattle.range_rules.specs.Holding.{Names}
use Rattle.range_rules.specs.Puts.{IsNotBelow, IsPlaced}
use Rattle.range_rules.specs.Resolves.{Decides, HasIntentOf}
use Rattle.range_server.specs.Refusals.{CanAppend, IsNotHolder, IsWithoutQuorum}
use Rattle.range_server.specs.Scene.{Scene, applied_in}
use Rattle.range_server.specs.declared.standing.Moment.{Moment}
use Rattle.ts_cache.specs.Cached.{high_of}
use Rattle.ts_cache.specs.Meeting.{point_of}
use Rattle.ts_cache.specs.Value.{CacheValue}

-- What is answered to a put. (Intents, and writes above reads: Taft et al., SIGMOD 2020; global ranges:
-- VanBenschoten et al., SIGMOD 2022.)

-- A put as it is asked for: the intent at the timestamp asked, the key, and the fates that it carries.
pub record Put : Type 0 where
  pub asked : Intent
  pub key : List ℕ
  pub value : Option (List ℕ)
  pub known : List Known

abbrev pub put_asked : Intent → List ℕ → Option (List ℕ) → List Known → Put
put_asked asked key value known = record { asked = asked; key = key; value = value; known = known }

-- The intent that it lays at a timestamp.
abbrev pub laid_at : Put → Ts → Laid
laid_at put ts = laid_as (record put.asked { ts = ts }) put.value

abbrev pub entry_at : Put → Ts → Entry
entry_at put ts = log.Put put.asked.attempt put.asked.start put.asked.anchor ts put.key put.value

-- Another attempt's intent stands at the key, and no carried fate decides it.
abbrev pub IsInWay : List Entry → Put → Laid → Type 0
IsInWay entries put i =
    HasIntent put.key i entries × (i.attempt ≢ put.asked.attempt)
    × ((f : Fate) → TellsFate put.known i.attempt f → ¬ Decides f)

abbrev pub IsFree : Scene → Put → Type 0
IsFree sc put = (i : Laid) → ¬ IsInWay (applied_in sc) put i

-- Another's intent stands at the key, and this carried fate decides it.
abbrev pub IsSettledBy : List Entry → Put → AttemptId → Fate → Type 0
IsSettledBy entries put other fate =
    HasIntentOf other put.key entries × (other ≢ put.asked.attempt) × TellsFate put.known other fate × Decides fate

-- The reply names the intent that is in the way.
pub record IsBlocked (sc : Scene) (put : Put) (reply : Reply) (added : List Entry) : Type 0 where
  pub lease : Lease
  pub has : lease_of (applied_in sc) ≡ Some lease
  pub names : Names lease sc.server.node sc.server.boot
  pub intent : Laid
  pub stands : IsInWay (applied_in sc) put intent
  pub tells : reply ≡ replies.Intent put.key intent.attempt intent.start intent.anchor
  pub nothing : added ≡ []

-- The put is laid, after the resolve of another's intent where one stands, and the reply names its timestamp.
pub record IsLaid (sc : Scene) (put : Put) (reply : Reply) (added : List Entry) : Type 0 where
  pub can : CanAppend sc
  pub ts : Ts
  pub tells : reply ≡ replies.Laid ts
  pub older : List Entry
  pub laid : added ≡ entry_at put ts ∷ older
  pub resolved : ((older ≡ []) × ((i : Laid) → HasIntent put.key i (applied_in sc) → i.attempt ≡ put.asked.attempt))
      ⊎ ((other : AttemptId) × (fate : Fate) × IsSettledBy (applied_in sc) put other fate
      × (older ≡ log.Resolve other put.key fate ∷ []))

-- What is answered to a put: one of these.
abbrev pub PutGives : Scene → Put → Reply → List Entry → Type 0
PutGives sc put reply added =
    IsNotHolder sc (IsFree sc put) reply added
    ⊎ (IsBlocked sc put reply added
    ⊎ (IsWithoutQuorum sc (IsFree sc put) reply added
    ⊎ IsLaid sc put reply added))

-- The greatest timestamp at which the key may have been read under the lease, and the wall that a put in a global
-- range leads.
abbrev pub read_at : CacheValue → List ℕ → Ts
read_at seen key = high_of seen (point_of key)

abbrev pub ahead_of : Moment → ℕ
ahead_of now = now.clock.wall + now.settings.lead

-- A put is placed as it is asked, and below nothing that stands in its way.
pub record IsPutOf (high : Ts) (is_global : Bool) (ahead : ℕ) (asked : Ts) (key : List ℕ) (laid : Laid) (before : List Entry) : Type 0 where
  pub placed : IsPlaced (λ read. read ≡ high) before is_global ahead asked key laid
  pub not_below : IsNotBelow before key laid.ts
  pub not_read : ¬ IsBelow laid.ts high

-- What a put may append: the resolve of the intent in its way, and itself.
abbrev pub IsPuts : Scene → Put → Entry → List Entry → Type 0
IsPuts sc put (log.Put attempt start anchor ts key value) before =
    (log.Put attempt start anchor ts key value ≡ entry_at put ts)
    × IsPutOf (read_at sc.server.cache put.key) sc.server.is_global (ahead_of sc.now) put.asked.ts put.key (laid_at put ts) before
IsPuts sc put (log.Resolve attempt key fate) before = (key ≡ put.key) × IsSettledBy before put attempt fate
IsPuts sc put e before = ⊥
