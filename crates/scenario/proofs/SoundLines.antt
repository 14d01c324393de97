-- What holds of the lines that are read follows from the faults that they don't have.
use Rattle.std.proofs.Common.{◌≡◌, ℕ, ◌+◌, ◌<◌, ◌≤◌, Bool, true, false, not, List, [], ◌∷◌, length, get_or, Some, None, refl, subst, arith}
use Rattle.std.specs.Prelude.{Option, Result, Ok, Err, Contains, IsUtf8, ◌&&◌, ◌||◌, ◌==◌, nat_lt, nat_le, is_none, is_some, if◌then◌else◌, ok_or, unwrap_or}
use Rattle.std.specs.List.{list_any}
use Rattle.std.proofs.lemmas.Bool.{ltb-false, leb-false, eqb-true, eqb-false}
use Rattle.std.proofs.lemmas.Bool.Decides.{nat_tests}
use Rattle.std.proofs.lemmas.List.{length-append}
use Rattle.std.proofs.lemmas.Map.Views.{Contains-from_any}
use Rattle.mr_base.specs.declared.ids.MsgId.{MsgId}
use Rattle.mr_base.specs.declared.ids.NodeId.{NodeId}
use Rattle.mr_base.specs.declared.ids.RangeId.{RangeId}
use Rattle.mr_base.specs.declared.nodes.NodeInfo.{NodeInfo}
use Rattle.mr_base.specs.declared.settings.Settings.{Settings}
use Rattle.mr_base.specs.declared.settings.Kind.{Kind}
use Rattle.mr_base.specs.declared.settings.Kind.TheVariants as kinds
use Rattle.journal.specs.declared.events.Event.{Event}
use Rattle.journal.specs.declared.events.Event.TheVariants as events
use Rattle.scenario.specs.declared.forms.Form.{Form}
use Rattle.scenario.specs.declared.forms.Form.TheVariants as forms
use Rattle.scenario.specs.declared.forms.LineName.{LineName}
use Rattle.scenario.specs.declared.lines.Line.{Line}
use Rattle.scenario.specs.declared.lines.Line.TheVariants as lines
use Rattle.scenario.specs.declared.seen.Seen.{Seen}
use Rattle.scenario.specs.declared.seen_nodes.SeenNode.{SeenNode}
use Rattle.scenario.specs.Forms.{form_of}
use Rattle.scenario.specs.LineNames.{line_name}
use Rattle.scenario.specs.Judgements.{awaits_nothing, begins_wrongly, has_long, has_region, is_long, is_long_kind, is_message, is_out_of_order, is_out_of_range, is_range, is_running, is_running_node, is_stopped, is_stopped_node, is_wrong_node, lacks_replica, meets_wrong_state, misses_message, misses_node, misses_range, names_nothing, repeats_a_name, waits_not}
use Rattle.scenario.specs.Lines.{Told, after_event, after_form, counted, fault_of, line_of, named_form, read_form, reads, said, unless_fault, is_skipped, with_region}
use Rattle.scenario.specs.NamePlaces.{place_of}
use Rattle.scenario.specs.SeenNodes.{clock_limit, clocks_pass, find_node, node_passes, passes}
use Rattle.scenario.specs.Sound.{AreSettings, IsAfter, IsAfterEvent, IsDown, IsLater, IsLive, IsNextNode, IsOpen, IsSoundLine, IsThere, IsTime, LinesAreSound, MayHappen, Runs, StaysBelow}
use Rattle.scenario.specs.Words.{first_word, no_id}
use Rattle.scenario.proofs.FormHeads.{IsOwnEvent, IsOwnForm, own_form_of}
use Rattle.scenario.proofs.NodeLemmas.{none_passes}
use Rattle.scenario.proofs.PlaceLemmas.{found_place}
use Rattle.scenario.proofs.Tells.{exact_message, exact_range, exact_replica, found}

-- ---- tests that came out false

neither : (a b : Bool) → (a || b) ≡ false → (a ≡ false) × (b ≡ false)
neither true b h = absurd cc
neither false b h = (refl, h)

is_so : (b : Bool) → not b ≡ false → b ≡ true
is_so true h = refl
is_so false h = absurd cc

passed_test : (b : Bool) (k : ℕ) (rest : Option ℕ) → (if b then Some k else rest) ≡ None → (b ≡ false) × (rest ≡ None)
passed_test true k rest h = absurd cc
passed_test false k rest h = (refl, h)

-- a line has none of the faults
record NoFault (seen : Seen) (told : Told) (f : Form) : Type 0 where
  in_range : is_out_of_range seen f ≡ false
  begins : begins_wrongly seen f ≡ false
  in_order : is_out_of_order seen f ≡ false
  names : names_nothing seen told.live f ≡ false
  fresh : repeats_a_name seen f ≡ false
  message : misses_message told.flight f ≡ false
  state : meets_wrong_state seen told.replicas f ≡ false
  awaits : awaits_nothing seen told.awaited f ≡ false

no_fault : (seen : Seen) (told : Told) (f : Form) → fault_of seen told f ≡ None → NoFault seen told f
unfolding fault_of
no_fault seen told f h =
    let a = passed_test (is_out_of_range seen f) 3 _ h in
    let b = passed_test (begins_wrongly seen f) 5 _ a.1 in
    let c = passed_test (is_out_of_order seen f) 6 _ b.1 in
    let d = passed_test (names_nothing seen told.live f) 4 _ c.1 in
    let e = passed_test (repeats_a_name seen f) 7 _ d.1 in
    let g = passed_test (misses_message told.flight f) 8 _ e.1 in
    let i = passed_test (meets_wrong_state seen told.replicas f) 9 _ g.1 in
    let j = passed_test (awaits_nothing seen told.awaited f) 12 _ i.1 in
    record { in_range = a.0; begins = b.0; in_order = c.0; names = d.0; fresh = e.0; message = g.0; state = i.0; awaits = j.0 }

-- ---- numbers

settings_short : (s : Settings) → has_long s ≡ false → AreSettings s
settings_short s h =
    let a = neither _ (is_long s.expire) h in
    let b = neither _ (is_long s.lead) a.0 in
    let c = neither _ (is_long s.lag) b.0 in
    let d = neither (is_long s.max_offset) (is_long s.lease) c.0 in
    (ltb-false _ _ d.0, ltb-false _ _ d.1, ltb-false _ _ c.1, ltb-false _ _ b.1, ltb-false _ _ a.1)

time_short : (kind : Kind) → is_long_kind kind ≡ false → IsTime kind
time_short kinds.Now h = tt
time_short (kinds.Ago ms) h = ltb-false _ _ h
time_short (kinds.Within ms any) h = ltb-false _ _ h

-- ---- nodes

there : (nodes : List SeenNode) (n : NodeId) → misses_node nodes (Some n) ≡ false → IsThere nodes n
there nodes n h = elim (find_node nodes n) as (λ o. is_none o ≡ false → (node : SeenNode) × (o ≡ Some node)) [ None ↦ λ e. absurd cc | Some node ↦ λ e. (node, refl) ] h

runs : (nodes : List SeenNode) (n : NodeId) → misses_node nodes (Some n) ≡ false → is_stopped nodes n ≡ false → Runs nodes n
runs nodes n h k =
    elim (find_node nodes n) as (λ o. is_none o ≡ false → is_stopped_node o ≡ false → (node : SeenNode) × (o ≡ Some node) × (node.running ≡ true)) [
      | None ↦ λ e s. absurd cc
      | Some node ↦ λ e s. (node, refl, is_so node.running s)
    ] h k

down : (nodes : List SeenNode) (n : NodeId) → misses_node nodes (Some n) ≡ false → is_running nodes n ≡ false → IsDown nodes n
down nodes n h k =
    elim (find_node nodes n) as (λ o. is_none o ≡ false → is_running_node o ≡ false → (node : SeenNode) × (o ≡ Some node) × (node.running ≡ false)) [
      | None ↦ λ e s. absurd cc
      | Some node ↦ λ e s. (node, refl, s)
    ] h k

below : (nodes : List SeenNode) (n : Option NodeId) (ms : ℕ) → misses_node nodes n ≡ false → clocks_pass nodes n ms ≡ false → StaysBelow nodes n ms
below nodes None ms h k = λ i d lt. leb-false clock_limit ((get_or nodes i d).clock + ms) (none_passes (passes ms) nodes i d k lt)
below nodes (Some n) ms h k =
    elim (find_node nodes n) as (λ o. is_none o ≡ false → node_passes ms o ≡ false → (node : SeenNode) × (o ≡ Some node) × (node.clock + ms < clock_limit)) [
      | None ↦ λ e s. absurd cc
      | Some node ↦ λ e s. (node, refl, leb-false clock_limit (node.clock + ms) s)
    ] h k

-- ---- what the world tells

is_live_range : (live : List RangeId) (r : RangeId) → misses_range live (Some r) ≡ false → Contains live r
is_live_range live r h = let b = neither (r.0 == no_id) (not (list_any (is_range r) live)) h in Contains-from_any exact_range r live (is_so _ b.1)

in_flight : (flight : List MsgId) (m : MsgId) → not (list_any (is_message m) flight) ≡ false → Contains flight m
in_flight flight m h = Contains-from_any exact_message m flight (is_so _ h)

holds : (replicas : List (NodeId × RangeId)) (n : NodeId) (r : RangeId) → lacks_replica replicas n r ≡ false → Contains replicas (n, r)
holds replicas n r h = Contains-from_any exact_replica (n, r) replicas (is_so _ h)

live_if_named : (told : Told) (r : Option RangeId) → misses_range told.live r ≡ false → IsLive told r
live_if_named told None h = tt
live_if_named told (Some r) h = is_live_range told.live r h

-- ---- the order of parts

has_begun : (zones_only begun : Bool) → (zones_only || not begun) ≡ false → (zones_only ≡ false) × (begun ≡ true)
has_begun zones_only begun h = let a = neither zones_only (not begun) h in (a.0, is_so begun a.1)

not_empty : (n : ℕ) → (n == 0) ≡ false → 0 < n
not_empty n h = let other = eqb-false n 0 h in omega (arith, other)

-- ---- events and forms

sound_event : (seen : Seen) (told : Told) (e : Event) → IsOwnEvent e → NoFault seen told (forms.Event e) → IsOpen seen e × MayHappen seen told e
unfolding is_out_of_range is_out_of_order names_nothing misses_message meets_wrong_state
sound_event seen told events.Begin own fine =
    let a = neither seen.zones_only (seen.begun || length seen.nodes == 0) fine.in_order in
    let b = neither seen.begun (length seen.nodes == 0) a.1 in
    ((a.0, b.0, not_empty _ b.1), tt)
sound_event seen told (events.Txn txn gateway kind list) own fine = absurd own
sound_event seen told (events.Tick node ms) own fine =
    let n = neither (misses_node seen.nodes node) false fine.names in
    let t = neither (is_long ms) (clocks_pass seen.nodes node ms) fine.in_range in
    (has_begun seen.zones_only seen.begun fine.in_order, (ltb-false _ _ t.0, below seen.nodes node ms n.0 t.1))
sound_event seen told (events.Deliver id) own fine = (has_begun seen.zones_only seen.begun fine.in_order, in_flight told.flight id fine.message)
sound_event seen told (events.Apply node range count) own fine =
    let n = neither (misses_node seen.nodes (Some node)) (misses_range told.live (Some range)) fine.names in
    let s = neither (is_stopped seen.nodes node) (lacks_replica told.replicas node range) fine.state in
    (has_begun seen.zones_only seen.begun fine.in_order, (runs seen.nodes node n.0 s.0, is_live_range told.live range n.1, holds told.replicas node range s.1))
sound_event seen told events.Drain own fine = (has_begun seen.zones_only seen.begun fine.in_order, tt)
sound_event seen told (events.Settle ms) own fine =
    let t = neither (is_long ms) (clocks_pass seen.nodes None ms) fine.in_range in
    (has_begun seen.zones_only seen.begun fine.in_order, (ltb-false _ _ t.0, below seen.nodes None ms refl t.1))
sound_event seen told (events.LeaseAcquire range node) own fine =
    let n = neither (misses_node seen.nodes (Some node)) (misses_range told.live (Some range)) fine.names in
    (has_begun seen.zones_only seen.begun fine.in_order, (runs seen.nodes node n.0 fine.state, is_live_range told.live range n.1))
sound_event seen told (events.LeaseTransfer range node) own fine =
    let n = neither (misses_node seen.nodes (Some node)) (misses_range told.live (Some range)) fine.names in
    (has_begun seen.zones_only seen.begun fine.in_order, (runs seen.nodes node n.0 fine.state, is_live_range told.live range n.1))
sound_event seen told (events.LeaseExtend range) own fine = (has_begun seen.zones_only seen.begun fine.in_order, is_live_range told.live range fine.names)
sound_event seen told (events.Close range) own fine = (has_begun seen.zones_only seen.begun fine.in_order, live_if_named told range fine.names)
sound_event seen told (events.Stop node) own fine =
    let n = neither (misses_node seen.nodes (Some node)) false fine.names in
    (has_begun seen.zones_only seen.begun fine.in_order, runs seen.nodes node n.0 fine.state)
sound_event seen told (events.Start node) own fine =
    let n = neither (misses_node seen.nodes (Some node)) false fine.names in
    (has_begun seen.zones_only seen.begun fine.in_order, down seen.nodes node n.0 fine.state)
sound_event seen told (events.ShowRange range) own fine = (has_begun seen.zones_only seen.begun fine.in_order, is_live_range told.live range fine.names)
sound_event seen told (events.ShowNode node) own fine =
    let n = neither (misses_node seen.nodes (Some node)) false fine.names in
    (has_begun seen.zones_only seen.begun fine.in_order, there seen.nodes node n.0)
sound_event seen told events.ShowFlight own fine = (has_begun seen.zones_only seen.begun fine.in_order, tt)
sound_event seen told (events.ShowFresh node) own fine =
    let n = neither (misses_node seen.nodes (Some node)) false fine.names in
    (has_begun seen.zones_only seen.begun fine.in_order, runs seen.nodes node n.0 fine.state)
sound_event seen told (events.Sql text) own fine = absurd own
sound_event seen told (events.Drop id) own fine = (has_begun seen.zones_only seen.begun fine.in_order, in_flight told.flight id fine.message)
sound_event seen told (events.Timeout txn) own fine = absurd own

sound_timeout : (seen : Seen) (told : Told) (place : Option ℕ) (name : List ℕ) → place_of seen.names name ≡ place → waits_not told.awaited place ≡ false
    → (unwrap_or place 0 < length seen.names) × ((id : MsgId) × Contains told.awaited (record { 0 = unwrap_or place 0 }, id))
sound_timeout seen told None name e h = absurd cc
sound_timeout seen told (Some t) name e h = ((found_place seen.names name t e).0, found told.awaited (record { 0 = t }) (is_so _ h))

less_than_16 : (n : ℕ) → (nat_le 16 n && true) ≡ false → n < 16
less_than_16 n h = grind (arith, nat_tests)

-- a 17th region would be none that was seen
few_regions : (regions : List (List ℕ)) (region : List ℕ) → (nat_le 16 (length regions) && not (has_region regions region)) ≡ false → length regions ≤ 16 → length (with_region regions region) ≤ 16
few_regions regions region h few = by (has_region regions region) refl
  where
    by : (b : Bool) → has_region regions region ≡ b → length (with_region regions region) ≤ 16
    by true e = rw e few
    by false e = rw e (omega (arith, length-append regions (region ∷ []), less_than_16 (length regions) (subst (λ b. (nat_le 16 (length regions) && not b) ≡ false) e h)))

next_node : (seen : Seen) (info : NodeInfo) (clock : ℕ) → IsOwnForm (forms.Node info clock) → is_wrong_node seen info clock ≡ false → (seen.stated || seen.begun) ≡ false → IsNextNode seen info clock
next_node seen info clock own fine order =
    let parts = neither seen.stated seen.begun order in
    let a = neither _ (nat_le clock_limit clock) fine in
    let b = neither _ (clock == 0) a.0 in
    let c = neither _ _ b.0 in
    let d = neither (nat_le 64 (length seen.nodes)) (not (info.id.0 == length seen.nodes + 1)) c.0 in
    record {
      unstated = parts.0;
      unbegun = parts.1;
      next = eqb-true _ _ (is_so _ d.1);
      many = leb-false _ _ d.0;
      few = few_regions seen.regions info.region c.1;
      region = own.0;
      zone = own.1;
      started = not_empty _ b.1;
      below = leb-false _ _ a.1;
    }

sound_statement : (seen : Seen) (told : Told) (text : List ℕ) → IsUtf8 text → IsLater seen → (length seen.nodes == 0) ≡ false → IsSoundLine seen told (if seen.begun then lines.Event (events.Sql text) else lines.Sql text)
sound_statement seen told text own later some =
    elim seen.begun as (λ b. seen.begun ≡ b → IsSoundLine seen told (if b then lines.Event (events.Sql text) else lines.Sql text)) [
      | true ↦ λ e. (later, (e, not_empty _ some), own)
      | false ↦ λ e. (later, e, not_empty _ some, own)
    ] refl

is_later : (seen : Seen) → seen.counted < 200000 → (seen.counted == 0) ≡ false → IsLater seen
is_later seen few some = (not_empty seen.counted some, few)

sound_form : (seen : Seen) (told : Told) (f : Form) → seen.counted < 200000 → IsOwnForm f → NoFault seen told f → IsSoundLine seen told (line_of seen f)
unfolding line_of is_out_of_range is_out_of_order begins_wrongly names_nothing meets_wrong_state awaits_nothing
sound_form seen told (forms.Cluster settings) few own fine =
    let none : seen.counted ≤ 0 = ltb-false 0 seen.counted fine.begins in
    (omega (arith, none), settings_short settings fine.in_range)
sound_form seen told (forms.Node info clock) few own fine = (is_later seen few fine.begins, next_node seen info clock own fine.in_range fine.in_order)
sound_form seen told (forms.Sql text) few own fine = sound_statement seen told text own (is_later seen few fine.begins) fine.in_order
sound_form seen told (forms.Txn name gateway kind list) few own fine =
    (is_later seen few fine.begins, has_begun seen.zones_only seen.begun fine.in_order, (refl, runs seen.nodes gateway fine.names fine.state, time_short kind fine.in_range, own.1))
sound_form seen told (forms.Timeout name) few own fine =
    (is_later seen few fine.begins, has_begun seen.zones_only seen.begun fine.in_order, sound_timeout seen told (place_of seen.names name) name refl fine.awaits)
sound_form seen told (forms.Event e) few own fine = let event = sound_event seen told e own fine in (is_later seen few fine.begins, event.0, event.1)

-- ---- what is seen then

unplaced : (o : Option ℕ) → is_some o ≡ false → o ≡ None
unplaced None h = refl
unplaced (Some i) h = absurd cc

after_one_event : (seen : Seen) (e : Event) → IsOwnEvent e → IsAfterEvent seen e (counted (after_event seen e))
after_one_event seen (events.Txn txn gateway kind list) own = absurd own
after_one_event seen _ own = refl

after_one_form : (seen : Seen) (f : Form) → IsOwnForm f → repeats_a_name seen f ≡ false → IsAfter seen (line_of seen f) (counted (after_form seen f))
unfolding line_of after_form repeats_a_name
after_one_form seen (forms.Cluster settings) own fresh = refl
after_one_form seen (forms.Node info clock) own fresh = refl
after_one_form seen (forms.Sql text) own fresh =
    elim seen.begun as (λ b. IsAfter seen (if b then lines.Event (events.Sql text) else lines.Sql text) (counted (if b then seen else record seen { stated = true }))) [
      | true ↦ refl
      | false ↦ refl
    ]
after_one_form seen (forms.Txn name gateway kind list) own fresh = (name, own.0, unplaced _ fresh, refl)
after_one_form seen (forms.Timeout name) own fresh = refl
after_one_form seen (forms.Event e) own fresh = after_one_event seen e own

-- ---- lines

abbrev Concludes : Seen → Told → Line → Seen → Type 0
Concludes seen told l seen' = IsSoundLine seen told l × IsAfter seen l seen'

concluded : (seen : Seen) (told : Told) (p q : Line × Seen) → (let r : Result (Line × Seen) ℕ = Ok p in r) ≡ Ok q → Concludes seen told p.0 p.1 → Concludes seen told q.0 q.1
concluded seen told p q e h = let same : p ≡ q = cc in subst (λ (x : Line × Seen). Concludes seen told x.0 x.1) same h

sound_fit : (seen : Seen) (told : Told) (f : Form) (l : Line) (seen' : Seen) → seen.counted < 200000 → IsOwnForm f → unless_fault seen f (fault_of seen told f) ≡ Ok (l, seen') → Concludes seen told l seen'
sound_fit seen told f l seen' few own h =
    elim (fault_of seen told f) as (λ o. fault_of seen told f ≡ o → unless_fault seen f o ≡ Ok (l, seen') → Concludes seen told l seen') [
      | Some k ↦ λ e r. absurd cc
      | None ↦ λ e r. let fine = no_fault seen told f e in concluded seen told (line_of seen f, counted (after_form seen f)) (l, seen') r (sound_form seen told f few own fine, after_one_form seen f own fine.fresh)
    ] refl h

sound_named : (seen : Seen) (told : Told) (name : LineName) (line : List ℕ) (l : Line) (seen' : Seen) → seen.counted < 200000 → read_form seen told (ok_or (form_of name line) 2) ≡ Ok (l, seen') → Concludes seen told l seen'
sound_named seen told name line l seen' few h =
    elim (form_of name line) as (λ o. form_of name line ≡ o → read_form seen told (ok_or o 2) ≡ Ok (l, seen') → Concludes seen told l seen') [
      | None ↦ λ e r. absurd cc
      | Some f ↦ λ e r. sound_fit seen told f l seen' few (own_form_of name line f e) r
    ] refl h

sound_said : (seen : Seen) (told : Told) (line : List ℕ) (l : Line) (seen' : Seen) → read_form seen told (said seen line) ≡ Ok (l, seen') → Concludes seen told l seen'
unfolding said
sound_said seen told line l seen' h =
    elim (nat_le 200000 seen.counted) as (λ b. nat_le 200000 seen.counted ≡ b → read_form seen told (if b then Err 11 else named_form line (line_name (first_word line))) ≡ Ok (l, seen') → Concludes seen told l seen') [
      | true ↦ λ e r. absurd cc
      | false ↦ λ e r.
          elim (line_name (first_word line)) as (λ o. read_form seen told (named_form line o) ≡ Ok (l, seen') → Concludes seen told l seen') [
            | None ↦ λ q. absurd cc
            | Some name ↦ λ q. sound_named seen told name line l seen' (leb-false _ _ e) q
          ] r
    ] refl h

pub lines_are_sound : LinesAreSound
unfolding reads
lines_are_sound seen told line l seen' h =
    elim (nat_lt 4096 (length line)) as (λ b. (if b then Err 10 else if is_skipped line then Ok (lines.Skipped, seen) else read_form seen told (said seen line)) ≡ Ok (l, seen') → Concludes seen told l seen') [
      | true ↦ λ r. absurd cc
      | false ↦ λ r.
          elim (is_skipped line) as (λ b. (if b then Ok (lines.Skipped, seen) else read_form seen told (said seen line)) ≡ Ok (l, seen') → Concludes seen told l seen') [
            | true ↦ λ q. concluded seen told (lines.Skipped, seen) (l, seen') q (tt, refl)
            | false ↦ λ q. sound_said seen told line l seen' q
          ] r
    ] h
