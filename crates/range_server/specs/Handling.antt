use Rattle.std.specs.Prelude.{◌≡◌, ◌++◌, ℕ, List, [], Option, Some, None}
use Rattle.mr_base.specs.declared.ids.AttemptId.{AttemptId}
use Rattle.mr_base.specs.declared.ids.RangeId.{RangeId}
use Rattle.mr_base.specs.declared.messages.Known.{Known}
use Rattle.mr_base.specs.declared.messages.Reply.{Reply}
use Rattle.mr_base.specs.declared.messages.Request.{Request}
use Rattle.mr_base.specs.declared.messages.Request.TheVariants as requests
use Rattle.mr_base.specs.declared.timestamps.Ts.{Ts}
use Rattle.range_log.specs.declared.entries.Entry.{Entry}
use Rattle.range_log.specs.LogValue.{LogValue}
use Rattle.range_rules.specs.Added.{AreLicensed}
use Rattle.range_rules.specs.Records.{IsCommitted, IsGivenUp, IsPushed}
use Rattle.range_server.specs.Applying.{applied_past}
use Rattle.range_server.specs.Puts.{IsPuts, Put, PutGives}
use Rattle.range_server.specs.Reads.{ReadGives, RefreshGives, read_of, refresh_of, seen_with}
use Rattle.range_server.specs.Records.{Changes, IsMet, SettlesBy, committed_at, given_up, may_abort_at, pushed_by_reader, pushed_by_writer}
use Rattle.range_server.specs.Refusals.{IsByHolder}
use Rattle.range_server.specs.Resolves.{AreResolved, IsResolveOf}
use Rattle.range_server.specs.Scene.{IsBeside, Scene, applied_in}
use Rattle.range_server.specs.declared.reads.Handled.{Handled}
use Rattle.range_server.specs.declared.reads.Right.{Right}
use Rattle.range_server.specs.declared.standing.Standing.{Standing}
use Rattle.ts_cache.specs.Value.{CacheValue}

-- What a server does with each request. (This project's profile; the parts name their sources.)

abbrev pub put_of : (attempt : AttemptId) (start : Ts) (anchor : RangeId) (at : Ts) (key : List ℕ) (value : Option (List ℕ)) (known : List Known) → Put
put_of attempt start anchor at key value known =
    record { asked = record { attempt = attempt; start = start; anchor = anchor; ts = at }; key = key; value = value; known = known }

-- What is answered, by what right a read or refresh was served, and what was added to the log.
abbrev pub Gives : Scene → Request → Reply → Option Right → List Entry → Type 0
Gives sc (requests.Read attempt range span at limit known) reply by added =
    ReadGives sc.server (applied_in sc) (read_of attempt span at limit known) reply by × (added ≡ [])
Gives sc (requests.Refresh attempt range span from at known) reply by added =
    RefreshGives sc.server (applied_in sc) (refresh_of attempt span from at known) reply by × (added ≡ [])
Gives sc (requests.Put attempt range start anchor at key value known) reply by added =
    PutGives sc (put_of attempt start anchor at key value known) reply added × (by ≡ None)
Gives sc (requests.PushReader attempt range other at) reply by added =
    SettlesBy sc other (pushed_by_reader other at) reply added × (by ≡ None)
Gives sc (requests.PushWriter attempt range other start other_start) reply by added =
    SettlesBy sc other (pushed_by_writer attempt other (may_abort_at sc.now start other_start)) reply added × (by ≡ None)
Gives sc (requests.Commit attempt range at) reply by added =
    SettlesBy sc attempt (committed_at at) reply added × (by ≡ None)
Gives sc (requests.Abort attempt range) reply by added =
    SettlesBy sc attempt (given_up attempt) reply added × (by ≡ None)
Gives sc (requests.Resolve attempt range keys fate) reply by added = ⊥

-- No reply is given to a resolve, and to it alone.
abbrev pub GivesNone : Scene → Request → Option Right → (entries added : List Entry) → Type 0
GivesNone sc (requests.Resolve attempt range keys fate) by entries added =
    AreResolved sc attempt keys entries added × (by ≡ None)
GivesNone sc q by entries added = ⊥

abbrev pub IsAnswer : Scene → Request → Option Reply → Option Right → (entries added : List Entry) → Type 0
IsAnswer sc q (Some reply) by entries added = Gives sc q reply by added
IsAnswer sc q None by entries added = GivesNone sc q by entries added

-- Which entries a request may add, each given those that stood before it.
abbrev pub Licenses : Scene → Request → Entry → List Entry → Type 0
Licenses sc (requests.Read attempt range span at limit known) e before = ⊥
Licenses sc (requests.Refresh attempt range span from at known) e before = ⊥
Licenses sc (requests.Put attempt range start anchor at key value known) e before =
    IsPuts sc (put_of attempt start anchor at key value known) e before
Licenses sc (requests.PushReader attempt range other at) e before =
    Changes other (λ was state. IsPushed was at state) e before
Licenses sc (requests.PushWriter attempt range other start other_start) e before =
    Changes other (IsMet sc.now attempt start other_start) e before
Licenses sc (requests.Commit attempt range at) e before =
    Changes attempt (λ was state. IsCommitted was at state) e before
Licenses sc (requests.Abort attempt range) e before =
    Changes attempt (λ was state. IsGivenUp attempt was state) e before
Licenses sc (requests.Resolve attempt range keys fate) e before = IsResolveOf attempt keys fate e before

-- What counts as read under the lease afterwards.
abbrev pub seen_past : Request → Option Reply → Option Right → CacheValue → CacheValue
seen_past (requests.Read attempt range span at limit known) reply by seen = seen_with reply by span at seen
seen_past (requests.Refresh attempt range span from at known) reply by seen = seen_with reply by span at seen
seen_past q reply by seen = seen

-- A request was handled: all of this holds.
pub record IsHandled (sc : Scene) (q : Request) (handled : Handled) (after : LogValue) (new : Standing) : Type 0 where
  pub added : List Entry
  pub grown : after.entries ≡ added ++ sc.log.entries
  pub answer : IsAnswer sc q handled.reply handled.by after.entries added
  pub licensed : AreLicensed (Licenses sc q) added sc.log.entries
  pub seen : new.cache ≡ seen_past q handled.reply handled.by sc.server.cache
  pub kept : new ≡ record sc.server { replica = new.replica; cache = new.cache }
  pub voters : after.voters ≡ sc.log.voters
  pub beside : IsBeside new after.entries
  pub applied : new.replica.applied ≡ applied_past added sc.server.replica.applied after.entries
  pub held : IsByHolder sc added
