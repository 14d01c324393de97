-- The forms of lines, each as what its words say. (This project's profile.)
use Rattle.std.specs.Prelude.{ℕ, true, false, nat_eq, if◌then◌else◌, List, [], ◌∷◌, drop, bytes_eq, codes, Option, Some, None}
use Rattle.std.specs.List.{starts_with}
use Rattle.std.specs.Str.{is_utf8}
use Rattle.mr_base.specs.declared.settings.Kind.{Kind}
use Rattle.mr_base.specs.declared.settings.Kind.TheVariants as kinds
use Rattle.journal.specs.declared.events.Event.TheVariants as events
use Rattle.scenario.specs.declared.forms.Form.{Form}
use Rattle.scenario.specs.declared.forms.Form.TheVariants as forms
use Rattle.scenario.specs.declared.forms.LineName.{LineName}
use Rattle.scenario.specs.declared.forms.LineName.TheVariants as names
use Rattle.scenario.specs.Words.{◌>>=◌, after_word, text_at, word_at, whole, number_at, node_at, range_at, message_at, place_at, txn_name_at, or_all_at}

-- A setting by its name and a number, or its standard value where the name doesn't follow.
unfoldable pub setting_at : List ℕ → ℕ → List ℕ → Option (ℕ × List ℕ)
setting_at name standard [] = Some (standard, [])
setting_at name standard (b ∷ rest) = do
  word ← word_at (b ∷ rest)
  if bytes_eq word.0 name then number_at word.1 else Some (standard, b ∷ rest)

-- cluster [max_offset MS] [lease MS] [lag MS] [lead MS] [expire MS]
unfoldable pub cluster_at : List ℕ → Option Form
cluster_at rest = do
  max_offset ← setting_at (codes "max_offset") 500 rest
  lease ← setting_at (codes "lease") 6000 max_offset.1
  lag ← setting_at (codes "lag") 3000 lease.1
  lead ← setting_at (codes "lead") 800 lag.1
  expire ← setting_at (codes "expire") 5000 lead.1
  whole expire.1 (forms.Cluster (record { max_offset = max_offset.0; lease = lease.0; lag = lag.0; lead = lead.0; expire = expire.0 }))

-- node n<k> REGION ZONE CLOCK
unfoldable pub node_line_at : List ℕ → Option Form
node_line_at rest = do
  id ← node_at rest
  region ← place_at id.1
  zone ← place_at region.1
  clock ← number_at zone.1
  whole clock.1 (forms.Node (record { id = id.0; region = region.0; zone = zone.0 }) clock.0)

-- sql STATEMENT
unfoldable pub sql_at : List ℕ → Option Form
sql_at rest = do
  text ← text_at rest
  Some (forms.Sql text)

-- within MS any LIST, within MS LIST: a line that fits both forms is of the first. The blank before the
-- list is left.
unfoldable pub within_at : List ℕ → Option (Kind × List ℕ)
within_at rest = do
  ms ← number_at rest
  if starts_with nat_eq ms.1 (codes " any ") then Some (kinds.Within ms.0 true, drop 4 ms.1)
      else Some (kinds.Within ms.0 false, ms.1)

-- now, ago MS, or within
unfoldable pub kind_at : List ℕ → Option (Kind × List ℕ)
kind_at rest = do
  word ← word_at rest
  if bytes_eq word.0 (codes "now") then Some (kinds.Now, word.1)
      else if bytes_eq word.0 (codes "ago") then (number_at word.1 >>= λ ms. Some (kinds.Ago ms.0, ms.1))
      else if bytes_eq word.0 (codes "within") then within_at word.1
      else None

-- txn NAME n<k> KIND LIST
unfoldable pub txn_at : List ℕ → Option Form
txn_at rest = do
  name ← txn_name_at rest
  gateway ← node_at name.1
  kind ← kind_at gateway.1
  list ← text_at kind.1
  Some (forms.Txn name.0 gateway.0 kind.0 list)

-- timeout NAME
unfoldable pub timeout_at : List ℕ → Option Form
timeout_at rest = do
  name ← txn_name_at rest
  whole name.1 (forms.Timeout name.0)

-- tick n<k> MS, tick all MS
unfoldable pub tick_at : List ℕ → Option Form
tick_at rest = do
  node ← or_all_at node_at rest
  ms ← number_at node.1
  whole ms.1 (forms.Event (events.Tick node.0 ms.0))

-- deliver m<i>, drop m<i>
unfoldable pub deliver_at : List ℕ → Option Form
deliver_at rest = do
  id ← message_at rest
  whole id.1 (forms.Event (events.Deliver id.0))

unfoldable pub drop_at : List ℕ → Option Form
drop_at rest = do
  id ← message_at rest
  whole id.1 (forms.Event (events.Drop id.0))

-- apply n<k> r<j> COUNT
unfoldable pub apply_at : List ℕ → Option Form
apply_at rest = do
  node ← node_at rest
  range ← range_at node.1
  count ← number_at range.1
  whole count.1 (forms.Event (events.Apply node.0 range.0 count.0))

-- settle MS
unfoldable pub settle_at : List ℕ → Option Form
settle_at rest = do
  ms ← number_at rest
  whole ms.1 (forms.Event (events.Settle ms.0))

-- lease acquire r<j> n<k>, lease transfer r<j> n<k>, lease extend r<j>
unfoldable pub acquire_at : List ℕ → Option Form
acquire_at rest = do
  range ← range_at rest
  node ← node_at range.1
  whole node.1 (forms.Event (events.LeaseAcquire range.0 node.0))

unfoldable pub transfer_at : List ℕ → Option Form
transfer_at rest = do
  range ← range_at rest
  node ← node_at range.1
  whole node.1 (forms.Event (events.LeaseTransfer range.0 node.0))

unfoldable pub extend_at : List ℕ → Option Form
extend_at rest = do
  range ← range_at rest
  whole range.1 (forms.Event (events.LeaseExtend range.0))

unfoldable pub lease_at : List ℕ → Option Form
lease_at rest = do
  verb ← word_at rest
  if bytes_eq verb.0 (codes "acquire") then acquire_at verb.1
      else if bytes_eq verb.0 (codes "transfer") then transfer_at verb.1
      else if bytes_eq verb.0 (codes "extend") then extend_at verb.1
      else None

-- close r<j>, close all
unfoldable pub close_at : List ℕ → Option Form
close_at rest = do
  range ← or_all_at range_at rest
  whole range.1 (forms.Event (events.Close range.0))

-- stop n<k>, start n<k>
unfoldable pub stop_at : List ℕ → Option Form
stop_at rest = do
  node ← node_at rest
  whole node.1 (forms.Event (events.Stop node.0))

unfoldable pub start_at : List ℕ → Option Form
start_at rest = do
  node ← node_at rest
  whole node.1 (forms.Event (events.Start node.0))

-- show range r<j>, show node n<k>, show fresh n<k>, show flight
unfoldable pub show_range_at : List ℕ → Option Form
show_range_at rest = do
  range ← range_at rest
  whole range.1 (forms.Event (events.ShowRange range.0))

unfoldable pub show_node_at : List ℕ → Option Form
show_node_at rest = do
  node ← node_at rest
  whole node.1 (forms.Event (events.ShowNode node.0))

unfoldable pub show_fresh_at : List ℕ → Option Form
show_fresh_at rest = do
  node ← node_at rest
  whole node.1 (forms.Event (events.ShowFresh node.0))

unfoldable pub show_at : List ℕ → Option Form
show_at rest = do
  what ← word_at rest
  if bytes_eq what.0 (codes "range") then show_range_at what.1
      else if bytes_eq what.0 (codes "node") then show_node_at what.1
      else if bytes_eq what.0 (codes "fresh") then show_fresh_at what.1
      else if bytes_eq what.0 (codes "flight") then whole what.1 (forms.Event events.ShowFlight)
      else None

-- The form of the lines of a name.
unfoldable pub form_at : LineName → List ℕ → Option Form
form_at names.Cluster rest = cluster_at rest
form_at names.Node rest = node_line_at rest
form_at names.Sql rest = sql_at rest
form_at names.Begin rest = whole rest (forms.Event events.Begin)
form_at names.Txn rest = txn_at rest
form_at names.Tick rest = tick_at rest
form_at names.Deliver rest = deliver_at rest
form_at names.Drop rest = drop_at rest
form_at names.Apply rest = apply_at rest
form_at names.Drain rest = whole rest (forms.Event events.Drain)
form_at names.Settle rest = settle_at rest
form_at names.Lease rest = lease_at rest
form_at names.Close rest = close_at rest
form_at names.Stop rest = stop_at rest
form_at names.Start rest = start_at rest
form_at names.Show rest = show_at rest
form_at names.Timeout rest = timeout_at rest

-- What a line of this name says, where the line is UTF-8 and its words fit the form.
unfoldable pub form_of : LineName → List ℕ → Option Form
form_of name line = if is_utf8 line then form_at name (after_word line) else None
