use Rattle.std.specs.Prelude.{◌≡◌, List}
use Rattle.mr_base.specs.declared.nodes.NodeSet.{NodeSet}
use Rattle.mr_base.specs.declared.settings.Settings.{Settings}
use Rattle.mr_base.specs.declared.timestamps.Reading.{Reading}
use Rattle.mvcc_range.specs.Follows.{Follows}
use Rattle.range_log.specs.Facts.{first_entries}
use Rattle.range_log.specs.LogValue.{LogValue}
use Rattle.range_log.specs.declared.entries.Entry.{Entry}
use Rattle.range_log.specs.declared.entries.Lease.{Lease}
use Rattle.range_rules.specs.Holding.{IsHolder}
use Rattle.range_server.specs.declared.standing.Moment.{Moment}
use Rattle.range_server.specs.declared.standing.Standing.{Standing}

-- What a server finds where it is asked: itself, its range's log, and the moment, which is what its node's clock
-- shows, the settings, and which nodes run.
pub record Scene : Type 0 where
  pub server : Standing
  pub log : LogValue
  pub now : Moment

abbrev pub scene : Standing → LogValue → Moment → Scene
scene server log now = record { server = server; log = log; now = now }

abbrev pub moment : Reading → Settings → NodeSet → Moment
moment clock settings running = record { clock = clock; settings = settings; running = running }

-- The entries that a server has applied: as many of the log's first as its replica counts.
abbrev pub applied_by : Standing → List Entry → List Entry
applied_by server entries = first_entries server.replica.applied entries

abbrev pub applied_in : Scene → List Entry
applied_in sc = applied_by sc.server sc.log.entries

-- A server holds its range by a lease.
abbrev pub Holds : Scene → Lease → Type 0
Holds sc lease = IsHolder (applied_in sc) sc.log.entries sc.server.node sc.server.boot lease

-- A server stands beside its log: its replica follows the entries that it has applied, and where it holds the
-- range, those are all.
pub record IsBeside (server : Standing) (entries : List Entry) : Type 0 where
  pub follows : Follows server.replica (applied_by server entries)
  pub whole : (lease : Lease) → IsHolder (applied_by server entries) entries server.node server.boot lease → applied_by server entries ≡ entries
